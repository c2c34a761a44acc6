use Rattle.std.proofs.Common.{rules, ◌≡◌, ◌<◌, Some}
use Rattle.sqlite.specs.Order.{column}
use Rattle.quantity.specs.Rows.{row}
use Rattle.keep_tables.specs.Columns.{text_at}
use Rattle.keep_tables.proofs.TotalLemmas.{above_none, told_of, was_added}
use Rattle.keep_tables.proofs.rows.totals.add_amount.Goals as goal

pub returns-in-Ok-clause-added : goal.returns-in-Ok-clause-added
returns-in-Ok-clause-added c =
    let shown = c.args.row.now in
    let name = c.as_str.result.now in
    let n = c.in_ok-amount.amount in
    let is_name : text_at (column shown 0) ≡ Some name = search rules in
    let above : 0 < n = above_none (column shown 1) n c.in_ok-amount.ensures in
    let done = was_added name n c.args.total.now c.add.new.self above c.in-Ok.ensures.ok in
    (row name n, told_of shown name n is_name c.in_ok-amount.ensures done.0, done.1)
