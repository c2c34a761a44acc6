use Rattle.std.proofs.Common.{◌<◌, arith, refl}
use Rattle.master_state.proofs.Searches.{none_past}
use Rattle.master_state.proofs.registry.starts.go_on.Goals as goal

pub loop-place-preserved : goal.loop-place-preserved
loop-place-preserved c = record {
  start = λ now sooner.
      let before : now < c.loop-place.start.until = omega (arith, c.min-start.ensures) in
      let behind : now < c.refused_until-until.result = omega (arith, c.min-start.ensures) in
      none_past now c.loop-place.start.agent c.loop-place.start.free c.args.frameworks.now c.loop-place.place c.index-frameworks-place.result c.loop-place-test.true c.index-frameworks-place.is
      (rw c.loop-place.invariant.place at c.loop-place.invariant.start now before) (c.refused_until-until.ensures now behind);
  later = omega (arith, c.min-start.ensures, c.from.ensures, c.if-until-from.false, c.loop-place.invariant.later);
  place = refl;
  agent = c.loop-place.invariant.agent;
  free = c.loop-place.invariant.free;
}
