use Rattle.std.proofs.Common.{◌≡◌, ℕ, ◌+◌, ◌*◌, ◌<◌, ◌≤◌, List, [], ◌∷◌, ◌++◌, length, take, get_or, sym, ap, ◌∙◌, subst}
use Rattle.std.proofs.lemmas.List.{take_more}
use Rattle.quantity.specs.declared.rows.Row.{Row}
use Rattle.quantity.specs.Rows.{amount}
use Rattle.drf_shares.specs.Dominant.{IsDominant, Part}
use Rattle.drf_shares.specs.Lists.{Among}
use Rattle.drf_shares.specs.Sums.{greatest_sum}
use Rattle.drf_shares.proofs.Dominating.{goes_up, stays_so, with_row}
use Rattle.drf_shares.proofs.Lists.{among_at, each_at}
use Rattle.drf_shares.proofs.share.Fraction.dominant.Goals.{then-is_more, else-is_more}
use Rattle.drf_shares.proofs.share.Fraction.dominant.Goals as goal

abbrev part : ℕ → ℕ → Part
part a t = record { amount = a; total = t }

abbrev Kept : List Row → List Row → ℕ → ℕ → Type 0
Kept rows held most total = IsDominant rows held (part most total) × (most ≤ greatest_sum) × (total ≤ greatest_sum)

pub loop-row-preserved : goal.loop-row-preserved
loop-row-preserved c =
    let xs : List Row = c.args.totals.now in
    let i : ℕ = c.loop-row.row-index in
    let x : Row = c.row-item.result in
    let within : i < length xs = rw c.rows-row-items.ensures.rows at c.loop-row-test.true in
    let is : x ≡ get_or xs i x = rw c.rows-row-items.ensures.rows at c.row-item.is in
    let at : Among x xs = among_at xs i x within is in
    let some : 0 < x.amount = each_at (λ (r : Row). 0 < r.amount) xs x c.rows-row-items.ensures.sum.positive at in
    let few : x.amount ≤ greatest_sum = each_at (λ (r : Row). r.amount ≤ greatest_sum) xs x c.rows-row-items.ensures.sum.few at in
    let more : take (i + 1) xs ≡ take i xs ++ x ∷ [] = take_more xs i x within ∙ ap (λ (r : Row). take i xs ++ r ∷ []) (sym is) in
    let held : c.amount-amount.result ≡ amount x.name c.args.held.now = rw c.as_str.ensures at c.amount-amount.ensures.amount in
    let dominates = c.loop-row.invariant.0 in
    elim c.if-is_more.branch [
      | then-is_more w ↦
          let up : c.loop-row.most * x.amount ≤ amount x.name c.args.held.now * c.loop-row.total =
          rw (c.from.ensures, c.from-in-loop-row.ensures, c.from-in-loop-row-2.ensures, c.from-in-loop-row-3.ensures, held) at w.if-is_more.true in
          let all : IsDominant (take i xs ++ x ∷ []) c.args.held.now (with_row c.args.held.now x) = goes_up (take i xs) c.args.held.now (part c.loop-row.most c.loop-row.total) x some dominates up in
          let amount_few : amount x.name c.args.held.now ≤ greatest_sum = subst (λ n. n ≤ greatest_sum) held c.amount-amount.ensures.range in
          let kept : Kept (take (i + 1) xs) c.args.held.now (amount x.name c.args.held.now) x.amount =
          (subst (λ rows. IsDominant rows c.args.held.now (with_row c.args.held.now x)) (sym more) all, amount_few, few) in
          let most : c.if-is_more.most ≡ amount x.name c.args.held.now = w.most-is ∙ held in
          subst (λ n. Kept (take (i + 1) xs) c.args.held.now n c.if-is_more.total) (sym most)
          (subst (λ n. Kept (take (i + 1) xs) c.args.held.now (amount x.name c.args.held.now) n) (sym w.total-is) kept)
      | else-is_more w ↦
          let less : amount x.name c.args.held.now * c.loop-row.total < c.loop-row.most * x.amount =
          rw (c.from.ensures, c.from-in-loop-row.ensures, c.from-in-loop-row-2.ensures, c.from-in-loop-row-3.ensures, held) at w.if-is_more.false in
          let all : IsDominant (take i xs ++ x ∷ []) c.args.held.now (part c.loop-row.most c.loop-row.total) = stays_so (take i xs) c.args.held.now (part c.loop-row.most c.loop-row.total) x dominates less in
          let kept : Kept (take (i + 1) xs) c.args.held.now c.loop-row.most c.loop-row.total =
          (subst (λ rows. IsDominant rows c.args.held.now (part c.loop-row.most c.loop-row.total)) (sym more) all, c.loop-row.invariant.1, c.loop-row.invariant.2) in
          subst (λ n. Kept (take (i + 1) xs) c.args.held.now n c.if-is_more.total) (sym w.most-is)
          (subst (λ n. Kept (take (i + 1) xs) c.args.held.now c.loop-row.most n) (sym w.total-is) kept)
    ]
