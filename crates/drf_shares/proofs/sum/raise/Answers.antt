use Rattle.std.proofs.Common.{◌≡◌, ℕ, ◌+◌, ◌<◌, ◌≤◌, ◌++◌, List, length, take, drop, ap, sym, ◌∙◌, arith}
use Rattle.std.specs.Ordering.{nat_cmp}
use Rattle.std.specs.Cmp.Lexicographic.{slice_cmp}
use Rattle.std.specs.declared.cmp.Ordering.TheVariants.{Equal}
use Rattle.std.proofs.lemmas.List.{get_or_default}
use Rattle.quantity.specs.declared.rows.Row.{Row}
use Rattle.quantity.specs.Rows.{amount}
use Rattle.quantity.proofs.Orders.{level_same}
use Rattle.drf_shares.specs.Sums.{raised}
use Rattle.drf_shares.proofs.Summing.{amount_at, more_here}
use Rattle.drf_shares.proofs.sum.raise.Goals as goal

pub overflow_add-index_mut : goal.overflow_add-index_mut
overflow_add-index_mut c =
    let xs = c.loop-i.rows.items in
    let i = c.loop-i.i in
    let name : List ℕ = c.args.more.now.name in
    let r : Row = c.index_mut.result.now in
    let within : i < length xs = omega (arith, c.len-i-end.ensures, ap (λ (ys : List Row). length ys) c.loop-i.invariant.0) in
    let compared : c.index.result.now ≡ r = c.index.ensures ∙ (get_or_default xs i c.index.result.now r within ∙ sym c.index_mut.ensures.value) in
    let alike : slice_cmp nat_cmp name c.index.result.now.name ≡ Equal = sym (rw (c.as_str.ensures, c.as_str-in-loop-i.ensures) at c.cmp.ensures) ∙ c.in-Equal.is in
    let equal : slice_cmp nat_cmp name r.name ≡ Equal = ap (λ (x : Row). slice_cmp nat_cmp name x.name) (sym compared) ∙ alike in
    let least : r.amount ≤ amount r.name xs = amount_at xs i r within c.index_mut.ensures.value in
    let own : amount r.name xs ≡ amount name xs = ap (λ (x : List ℕ). amount x xs) (sym (level_same name r.name equal)) in
    let same : amount name xs ≡ amount name c.args.rows.now.items = ap (λ (ys : List Row). amount name ys) c.loop-i.invariant.0 in
    omega (arith, least, own, same, c.requires)

pub returns-in-Equal : goal.returns-in-Equal
returns-in-Equal c =
    let xs = c.loop-i.rows.items in
    let i = c.loop-i.i in
    let name : List ℕ = c.args.more.now.name in
    let n : ℕ = c.args.more.now.amount in
    let r : Row = c.index_mut.result.now in
    let within : i < length xs = omega (arith, c.len-i-end.ensures, ap (λ (ys : List Row). length ys) c.loop-i.invariant.0) in
    let compared : c.index.result.now ≡ r = c.index.ensures ∙ (get_or_default xs i c.index.result.now r within ∙ sym c.index_mut.ensures.value) in
    let alike : slice_cmp nat_cmp name c.index.result.now.name ≡ Equal = sym (rw (c.as_str.ensures, c.as_str-in-loop-i.ensures) at c.cmp.ensures) ∙ c.in-Equal.is in
    let equal : slice_cmp nat_cmp name r.name ≡ Equal = ap (λ (x : Row). slice_cmp nat_cmp name x.name) (sym compared) ∙ alike in
    more_here name n xs i r within c.index_mut.ensures.value equal
    ∙ (ap (λ (ys : List Row). take i ys ++ raised name n (drop i ys)) c.loop-i.invariant.0 ∙ c.loop-i.invariant.1)
