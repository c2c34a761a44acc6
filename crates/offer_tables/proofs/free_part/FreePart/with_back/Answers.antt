use Rattle.std.proofs.Common.{◌≡◌, ◌+◌, ◌-◌, ◌<◌, ◌++◌, [], ◌∷◌, map, take, length, get_or, sym, ap, ◌∙◌, arith}
use Rattle.std.proofs.lemmas.List.{map_more, get_or-map}
use Rattle.quantity.specs.Rows.{amount}
use Rattle.offer_tables.specs.Rows.{left_in}
use Rattle.offer_tables.proofs.Leaving.{given_row}
use Rattle.offer_tables.proofs.free_part.FreePart.with_back.Goals as goal

pub loop-place-preserved : goal.loop-place-preserved
loop-place-preserved c = record {
  left = λ taken others is covered plus.
      let total = c.args.total.now in
      let i = c.loop-place.place in
      let r = c.row-item.result in
      let rows : c.rows-row-items.result.now ≡ total = c.rows-row-items.ensures.rows in
      let within : i < length total = omega (arith, c.loop-place-test.true, ap length rows) in
      let at : r ≡ get_or total i r = c.row-item.is ∙ ap (λ l. get_or l i r) rows in
      let n : c.amount_at.result ≡ left_in taken r =
      c.amount_at.ensures ∙ ap (λ l. get_or l i 0) is ∙ get_or-map (left_in taken) total i r 0 within ∙ ap (left_in taken) (sym at) in
      let m : c.get.result ≡ amount r.name c.args.more.now = c.get.ensures.amount ∙ ap (λ k. amount k c.args.more.now) c.as_str.ensures in
      let x : c.saturating_sub.result ≡ r.amount - (r.amount - c.amount_at.result - c.get.result) =
      c.saturating_sub.ensures ∙ ap (λ k. r.amount - k) (c.saturating_sub-stays.ensures ∙ ap (λ k. k - c.get.result) c.saturating_sub-taken.ensures) in
      let left : c.saturating_sub.result ≡ left_in others r =
      given_row total taken others c.args.more.now i r c.amount_at.result c.get.result c.saturating_sub.result c.rows-row-items.ensures.ordered within at covered plus n m x in
      c.push.ensures.items
      ∙ (λ k. c.loop-place.invariant.left taken others is covered plus k ++ left k ∷ [])
      ∙ ap (λ y. map (left_in others) (take i total) ++ left_in others y ∷ []) at
      ∙ sym (map_more (left_in others) total i r within);
  many = c.push.ensures.len ∙ ap (λ k. k + 1) c.loop-place.invariant.many;
}
