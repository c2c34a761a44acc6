use Rattle.std.proofs.Common.{subst, sym, arith}
use Rattle.master_rounds.specs.Candidates.{AreCandidates}
use Rattle.master_rounds.proofs.AtPlaces.{candidates_more}
use Rattle.master_rounds.proofs.shares.candidates.candidates_of.Goals as goal

pub loop-place-preserved : goal.loop-place-preserved
loop-place-preserved c =
    let fs = c.args.frameworks.now in
    record {
      are = subst (AreCandidates c.args.shares.now _) (sym c.in_ok-push.ensures.items)
          (candidates_more c.args.shares.now fs c.loop-place.candidates.items c.loop-place.place c.index-frameworks-place.result c.candidate_of.result c.loop-place.invariant.are c.loop-place.invariant.all c.loop-place-test.true c.index-frameworks-place.is c.candidate_of.ensures);
      all = omega (arith, c.in_ok-push.ensures.len, c.loop-place.invariant.all);
    }
