use Rattle.std.proofs.Common.{inr, subst}
use Rattle.desk_lock.proofs.office.turn_at.Goals as goal

pub returns : goal.returns
returns g c = λ is. inr (record {
  shown = c.recorded.result;
  shows = c.recorded.ensures;
  says = record { met = subst (λ turn. g.F.Fn.post c.args.look.now (c.recorded.result, tt) turn) is c.look.ensures };
})
