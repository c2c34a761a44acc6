use Rattle.std.proofs.Common.{◌≡◌, ℕ, suc, ◌+◌, ◌<◌, ◌++◌, ◌∷◌, [], List, length, take, sym, subst, arith}
use Rattle.std.proofs.lemmas.List.{length_push}
use Rattle.drf_shares.specs.Dominant.{Part}
use Rattle.drf_pick.specs.Fractions.{OfHolders, holder_held}
use Rattle.drf_pick.proofs.KeptShares.{pushed}
use Rattle.drf_pick.proofs.fractions.of_holders.Goals as goal

pub loop-holder-preserved : goal.loop-holder-preserved
loop-holder-preserved c =
    let t = c.args.totals.now in
    let xs = c.args.holders.now in
    let fs = c.loop-holder.fractions.items in
    let i : ℕ = c.loop-holder.holder-index in
    let f : Part = c.dominant.result in
    let within : i < length xs = omega arith in
    let now : c.push.new.self.items ≡ fs ++ f ∷ [] = c.in_ok-push.ensures.items in
    let next : suc i ≡ i + 1 = omega arith in
    let all : OfHolders t (take (suc i) xs) (fs ++ f ∷ []) = pushed holder_held t xs fs i c.holder-item.result f c.loop-holder.invariant.0 c.loop-holder.invariant.1 within c.holder-item.is c.dominant.ensures in
    let count : length (fs ++ f ∷ []) ≡ i + 1 = omega (arith, length_push fs f, c.loop-holder.invariant.1) in
    (subst (λ (ps : List Part). OfHolders t (take (i + 1) xs) ps) (sym now) (subst (λ n. OfHolders t (take n xs) (fs ++ f ∷ [])) next all), subst (λ (ps : List Part). length ps ≡ i + 1) (sym now) count)
