use Rattle.std.proofs.Common.{◌≡◌, ◌+◌, ◌<◌, ◌≤◌, ◌++◌, [], ◌∷◌, map, take, length, get_or, sym, ap, ◌∙◌, arith}
use Rattle.std.proofs.lemmas.List.{map_more, get_or-map, take_all}
use Rattle.quantity.specs.Rows.{amount, left_of, part_of, row}
use Rattle.quantity.proofs.Amounts.{amount-append, amount-cons}
use Rattle.offer_tables.specs.Rows.{left_in}
use Rattle.offer_tables.proofs.Leaving.{added_amount, rest_from_amounts}
use Rattle.offer_tables.proofs.free_part.FreePart.to_resources.Goals as goal

pub loop-place-preserved : goal.loop-place-preserved
loop-place-preserved c = λ taken is q.
    let total = c.args.total.now in
    let i = c.loop-place.place in
    let r = c.row-item.result in
    let rows : c.rows-row-items.result.now ≡ total = c.rows-row-items.ensures.rows in
    let within : i < length total = omega (arith, c.loop-place-test.true, ap length rows) in
    let at : r ≡ get_or total i r = c.row-item.is ∙ ap (λ l. get_or l i r) rows in
    let left : c.amount_at.result ≡ left_in taken r =
    c.amount_at.ensures ∙ ap (λ l. get_or l i 0) is ∙ get_or-map (left_in taken) total i r 0 within ∙ ap (left_in taken) (sym at) in
    let same : row c.as_str.result.now c.amount_at.result ≡ left_of taken r = λ k. row (c.as_str.ensures k) (left k) in
    let more : map (left_of taken) (take (i + 1) total) ≡ map (left_of taken) (take i total) ++ left_of taken r ∷ [] =
    map_more (left_of taken) total i r within ∙ ap (λ x. map (left_of taken) (take i total) ++ left_of taken x ∷ []) (sym at) in
    let one : amount q (left_of taken r ∷ []) ≡ part_of q (left_of taken r) = omega (arith, amount-cons q (left_of taken r) []) in
    omega (
      arith,
      added_amount q c.as_str.result.now c.amount_at.result c.loop-place.rest c.add.new.self c.in_default.ensures.ok,
      ap (part_of q) same,
      c.loop-place.invariant taken is q,
      ap (amount q) more,
      amount-append q (map (left_of taken) (take i total)) (left_of taken r ∷ []),
      one,
    )

pub returns : goal.returns
returns c = λ taken is.
    let past : length c.args.total.now ≤ c.loop-place.place = omega (arith, c.loop-place-test.false, ap length c.rows-row-items.ensures.rows) in
    rest_from_amounts c.args.total.now taken c.loop-place.rest c.rows-ordered.ensures.ordered c.rows-rows.ensures.ordered
    (λ q. c.loop-place.invariant taken is q ∙ ap (λ l. amount q (map (left_of taken) l)) (take_all c.loop-place.place c.args.total.now past))
