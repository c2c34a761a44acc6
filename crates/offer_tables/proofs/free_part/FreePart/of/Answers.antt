use Rattle.std.proofs.Common.{◌≡◌, ◌<◌, ◌≤◌, true, false, length, get_or, sym, ap, ◌∙◌, arith}
use Rattle.std.specs.Prelude.{nat_eq}
use Rattle.std.specs.Cmp.Lexicographic.{pointwise}
use Rattle.offer_tables.proofs.Leaving.{left_behind, left_here, left_past}
use Rattle.offer_tables.proofs.free_part.FreePart.of.Goals as goal

pub loop-place-preserved : goal.loop-place-preserved
loop-place-preserved c =
    let total = c.args.total.now in
    let i = c.loop-place.place in
    let r = c.row-item.result in
    let rows : c.rows-row-items.result.now ≡ total = c.rows-row-items.ensures.rows in
    let within : i < length total = omega (arith, c.loop-place-test.true, ap length rows) in
    let at : r ≡ get_or total i r = c.row-item.is ∙ ap (λ l. get_or l i r) rows in
    let miss : pointwise nat_eq r.name c.args.name.now ≡ false =
    ap (λ n. pointwise nat_eq n c.args.name.now) (sym c.as_str.ensures) ∙ sym c.eq.ensures ∙ c.if-eq.false in
    c.loop-place.invariant ∙ left_behind c.args.name.now total c.args.self.now i r within at miss

pub returns-then-eq : goal.returns-then-eq
returns-then-eq c =
    let total = c.args.total.now in
    let i = c.loop-place.place in
    let r = c.row-item.result in
    let rows : c.rows-row-items.result.now ≡ total = c.rows-row-items.ensures.rows in
    let within : i < length total = omega (arith, c.loop-place-test.true, ap length rows) in
    let at : r ≡ get_or total i r = c.row-item.is ∙ ap (λ l. get_or l i r) rows in
    let hit : pointwise nat_eq r.name c.args.name.now ≡ true =
    ap (λ n. pointwise nat_eq n c.args.name.now) (sym c.as_str.ensures) ∙ sym c.eq.ensures ∙ c.if-eq.true in
    c.amount_at.ensures ∙ sym (c.loop-place.invariant ∙ left_here c.args.name.now total c.args.self.now i r within at hit)

pub returns : goal.returns
returns c =
    let total = c.args.total.now in
    let past : length c.args.total.now ≤ c.loop-place.place = omega (arith, c.loop-place-test.false, ap length c.rows-row-items.ensures.rows) in
    sym (c.loop-place.invariant ∙ left_past c.args.name.now total c.args.self.now c.loop-place.place past)
