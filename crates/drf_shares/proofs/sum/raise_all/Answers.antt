use Rattle.std.proofs.Common.{◌≡◌, ℕ, ◌+◌, ◌++◌, ◌∷◌, [], true, List, get_or, take, drop, ap, sym, subst, ◌∙◌, arith}
use Rattle.std.specs.List.{AllByRecursion}
use Rattle.std.proofs.lemmas.Grind.{fold-append}
use Rattle.std.proofs.lemmas.List.{drop_more, take_more}
use Rattle.quantity.specs.declared.rows.Row.{Row}
use Rattle.quantity.specs.Rows.{amount}
use Rattle.drf_shares.specs.Sums.{is_reached, plus_rows, raised}
use Rattle.drf_shares.proofs.Summing.{next_adds}
use Rattle.drf_shares.proofs.Reaching.{all_still_reached}
use Rattle.drf_shares.proofs.sum.raise_all.Goals as goal

pub raise_known-requires-clause-room : goal.raise_known-requires-clause-room
raise_known-requires-clause-room c =
    let rows = c.args.rows.now.items in
    let more = c.args.more.now in
    let i : ℕ = c.loop-row.row-index in
    let r : Row = c.row-item.result in
    omega (arith, next_adds rows more i r (omega arith) c.row-item.is c.requires.room, ap (amount r.name) c.loop-row.invariant.0)

pub loop-row-preserved : goal.loop-row-preserved
loop-row-preserved c =
    let more = c.args.more.now in
    let rows = c.args.rows.now.items in
    let now = c.loop-row.rows.items in
    let i : ℕ = c.loop-row.row-index in
    let r : Row = c.row-item.result in
    let here : r ≡ get_or more i r = c.row-item.is in
    let rest : drop i more ≡ r ∷ drop (i + 1) more = drop_more more i r (omega arith) ∙ ap (λ (x : Row). x ∷ drop (i + 1) more) (sym here) in
    let first : take (i + 1) more ≡ take i more ++ r ∷ [] = take_more more i r (omega arith) ∙ ap (λ (x : Row). take i more ++ x ∷ []) (sym here) in
    let all = subst (λ (xs : List Row). AllByRecursion (λ s. is_reached s.name now ≡ true) xs) rest c.loop-row.invariant.1 in
    let is : c.raise_known.new.rows.items ≡ raised r.name r.amount now = c.raise_known.ensures in
    let sum : raised r.name r.amount now ≡ plus_rows rows (take (i + 1) more) =
    ap (raised r.name r.amount) c.loop-row.invariant.0 ∙ sym (ap (plus_rows rows) first ∙ fold-append (λ s x. raised x.name x.amount s) rows (take i more) (r ∷ [])) in
    (is ∙ sum, subst (λ (xs : List Row). AllByRecursion (λ s. is_reached s.name xs ≡ true) (drop (i + 1) more)) (sym is) (all_still_reached r.name r.amount now (drop (i + 1) more) all.0 all.1))
