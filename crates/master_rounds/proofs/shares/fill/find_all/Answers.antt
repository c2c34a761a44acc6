use Rattle.std.proofs.Common.{◌≡◌, ◌<◌, length, ap, sym, ◌∙◌, arith, Some}
use Rattle.std.specs.Prelude.{slice_get}
use Rattle.std.proofs.Math.ListN.{length-set}
use Rattle.master_rounds.proofs.Finding.{found_more}
use Rattle.master_rounds.proofs.Owning.{got}
use Rattle.master_rounds.proofs.shares.fill.find_all.Goals as goal

pub loop-place-preserved : goal.loop-place-preserved
loop-place-preserved c =
    let fs = c.loop-place.counted.found.items in
    let ss = c.args.sides.now in
    let i = c.loop-place.place in
    let s = c.in-Some.agent in
    let inv = c.loop-place.invariant in
    let at = c.in_ok-find_at.ensures.found in
    let is : slice_get ss i ≡ Some s = sym c.at.ensures ∙ c.in-Some.is in
    let within : i < length fs = omega (arith, (got ss i s is).0, inv.many) in
    record {
      found = found_more fs c.find_at.new.counted.found.items ss i s within is at inv.found;
      many = ap length at.1 ∙ length-set fs i at.0 ∙ inv.many;
      owned = c.find_at.ensures.owned ∙ inv.owned;
      counted = λ cs k. c.in_ok-find_at.ensures.counted cs (inv.counted cs k);
    }
