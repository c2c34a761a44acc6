use Rattle.std.proofs.Common.{None, ap, ◌∙◌, arith}
use Rattle.roster.specs.Places.{value_at}
use Rattle.master_agents.specs.Free.{open_part}
use Rattle.master_rounds.specs.Visits.{visits_part}
use Rattle.master_rounds.proofs.Visiting.{visited_more}
use Rattle.master_rounds.proofs.visit.visit_all.Goals as goal

pub loop-place-preserved : goal.loop-place-preserved
loop-place-preserved c =
    let s = c.args.state.now in
    record {
      progress = c.in_ok-visit.ensures.ok
          ∙ ap (λ p. visits_part s.run s.moment s.frameworks p (value_at c.loop-place.place open_part None s.sides)) c.loop-place.invariant.progress
          ∙ visited_more s.run s.moment s.frameworks c.args.progress.now s.sides c.loop-place.place (omega (arith, c.loop-place-test.true, c.len-place-end.ensures));
      candidates = c.in_ok-visit.ensures.candidates;
      numbered = c.visit.ensures.numbered;
      starts = c.in_ok-visit.ensures.starts;
    }
