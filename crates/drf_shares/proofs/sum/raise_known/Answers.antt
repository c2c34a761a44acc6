use Rattle.std.proofs.Common.{◌≡◌, ℕ, suc, ◌+◌, ◌<◌, ◌≤◌, ◌++◌, true, false, nat_eq, List, length, get_or, take, drop, ap, sym, subst, ◌∙◌, arith}
use Rattle.std.specs.Ordering.{nat_cmp}
use Rattle.std.specs.Cmp.Lexicographic.{pointwise, slice_cmp}
use Rattle.std.specs.declared.cmp.Ordering.TheVariants.{Equal}
use Rattle.std.proofs.lemmas.List.{get_or_default}
use Rattle.quantity.specs.declared.rows.Row.{Row}
use Rattle.quantity.specs.Rows.{amount}
use Rattle.quantity.proofs.Orders.{level_same}
use Rattle.drf_shares.specs.Sums.{is_reached, raised}
use Rattle.drf_shares.proofs.Summing.{amount_at, more_here}
use Rattle.drf_shares.proofs.Reaching.{level, walked}
use Rattle.drf_shares.proofs.sum.raise_known.Goals as goal

pub overflow_add-index_mut : goal.overflow_add-index_mut
overflow_add-index_mut c =
    let xs = c.loop-i.rows.items in
    let i = c.loop-i.i in
    let name : List ℕ = c.args.more.now.name in
    let r : Row = c.index_mut.result.now in
    let within : i < length xs = omega (arith, c.len-i-end.ensures, ap (λ (ys : List Row). length ys) c.loop-i.invariant.0.0) in
    let compared : c.index.result.now ≡ r = c.index.ensures ∙ (get_or_default xs i c.index.result.now r within ∙ sym c.index_mut.ensures.value) in
    let alike : pointwise nat_eq c.index.result.now.name name ≡ true = sym c.eq.ensures ∙ c.if-eq.true in
    let equal : slice_cmp nat_cmp name r.name ≡ Equal = level r.name name (ap (λ (x : Row). pointwise nat_eq x.name name) (sym compared) ∙ alike) in
    let least : r.amount ≤ amount r.name xs = amount_at xs i r within c.index_mut.ensures.value in
    let own : amount r.name xs ≡ amount name xs = ap (λ (x : List ℕ). amount x xs) (sym (level_same name r.name equal)) in
    let same : amount name xs ≡ amount name c.args.rows.now.items = ap (λ (ys : List Row). amount name ys) c.loop-i.invariant.0.0 in
    omega (arith, least, own, same, c.requires.room)

pub returns-then-eq : goal.returns-then-eq
returns-then-eq c =
    let xs = c.loop-i.rows.items in
    let i = c.loop-i.i in
    let name : List ℕ = c.args.more.now.name in
    let n : ℕ = c.args.more.now.amount in
    let r : Row = c.index_mut.result.now in
    let within : i < length xs = omega (arith, c.len-i-end.ensures, ap (λ (ys : List Row). length ys) c.loop-i.invariant.0.0) in
    let compared : c.index.result.now ≡ r = c.index.ensures ∙ (get_or_default xs i c.index.result.now r within ∙ sym c.index_mut.ensures.value) in
    let alike : pointwise nat_eq c.index.result.now.name name ≡ true = sym c.eq.ensures ∙ c.if-eq.true in
    let equal : slice_cmp nat_cmp name r.name ≡ Equal = level r.name name (ap (λ (x : Row). pointwise nat_eq x.name name) (sym compared) ∙ alike) in
    more_here name n xs i r within c.index_mut.ensures.value equal
    ∙ (ap (λ (ys : List Row). take i ys ++ raised name n (drop i ys)) c.loop-i.invariant.0.0 ∙ c.loop-i.invariant.0.1)

pub loop-i-preserved : goal.loop-i-preserved
loop-i-preserved c =
    let rows = c.args.rows.now.items in
    let i : ℕ = c.loop-i.i in
    let name : List ℕ = c.args.more.now.name in
    let n : ℕ = c.args.more.now.amount in
    let r : Row = c.index.result.now in
    let within : i < length rows = omega (arith, c.len-i-end.ensures) in
    let is = subst (λ (ys : List Row). r ≡ get_or ys i r) c.loop-i.invariant.0.0 c.index.ensures in
    let other : pointwise nat_eq r.name name ≡ false = sym c.eq.ensures ∙ c.if-eq.false in
    let step = walked name n rows i r within is c.loop-i.invariant.1 other in
    let next : suc i ≡ i + 1 = omega arith in
    ((c.loop-i.invariant.0.0, subst (λ k. take k rows ++ raised name n (drop k rows) ≡ raised name n rows) next (step.0 ∙ c.loop-i.invariant.0.1)), subst (λ k. is_reached name (drop k rows) ≡ true) next step.1)
