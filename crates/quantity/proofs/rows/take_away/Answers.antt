use Rattle.std.proofs.Common.{◌≡◌, ◌+◌, ◌-◌, ◌<◌, length, get_or, set, drop, ap, ◌∙◌, subst, arith}
use Rattle.std.specs.List.Sorted.{IsStrictlySortedBy}
use Rattle.std.proofs.lemmas.List.{get_or_default}
use Rattle.std.proofs.lemmas.List.Edits.{map_over_more}
use Rattle.quantity.specs.Rows.{amount, name_order, left_of, row}
use Rattle.quantity.proofs.Walks.{Serves, ordered_drop, row_at, read_front, read_rest, mapped_at}
use Rattle.quantity.proofs.rows.take_away.Goals as goal

pub loop-row-preserved : goal.loop-row-preserved
loop-row-preserved c =
    let others = c.args.others.now in
    let rows = c.args.rows.now in
    let now = c.loop-row.rows in
    let i = c.loop-row.row-index in
    let r = get_or now i c.row-item.result in
    let behind = drop (i + 1) rows in
    let within : i < length rows = omega arith in
    let within_now : i < length now = omega arith in
    let at : r ≡ get_or rows i c.row-item.result = ap (λ xs. get_or xs i c.row-item.result) c.loop-row.invariant.same ∙ mapped_at (left_of others) rows i c.row-item.result in
    let is : r ≡ get_or rows i r = at ∙ get_or_default rows i c.row-item.result r within in
    let here = row_at rows i r within is in
    let ordered = subst (IsStrictlySortedBy name_order) here (ordered_drop i rows c.requires.rows_ordered) in
    let serves = subst (Serves others c.loop-row.rest.now) here c.loop-row.invariant.serves in
    let taken : c.front_amount-taken.result ≡ amount r.name others =
    read_front others c.loop-row.rest.now r behind _ _ _ c.as_str-name.ensures c.rows_from-rest.ensures c.front_amount-taken.ensures serves in
    let left : c.saturating_sub-row.result ≡ r.amount - amount r.name others = c.saturating_sub-row.ensures ∙ ap (λ n. r.amount - n) taken in
    record {
      serves = read_rest others c.loop-row.rest.now r behind _ _ c.as_str-name.ensures c.rows_from-rest.ensures ordered serves;
      same = ap (λ n. set now i (row r.name n)) left ∙ map_over_more (left_of others) rows now i r within c.loop-row.invariant.same (get_or_default now i c.row-item.result r within_now);
    }
