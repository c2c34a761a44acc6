use Rattle.std.proofs.Common.{ap, ◌∙◌}
use Rattle.quantity.specs.Merging.{rows_from, front_amount, count_below}
use Rattle.quantity.proofs.Walks.{front_is, front_small, all_drop}
use Rattle.quantity.specs.Rows.{IsRow}
use Rattle.quantity.proofs.rows.amount_in.Goals as goal

pub returns-clause-amount : goal.returns-clause-amount
returns-clause-amount c =
    c.front_amount.ensures ∙ ap (front_amount c.args.name.now) c.rows_from.ensures ∙ front_is c.args.name.now c.args.rows.now c.requires.ordered

pub returns-clause-small : goal.returns-clause-small
returns-clause-small c =
    rw (c.front_amount.ensures, c.rows_from.ensures)
    (front_small c.args.name.now (rows_from c.args.name.now c.args.rows.now) (all_drop IsRow (count_below c.args.name.now c.args.rows.now) c.args.rows.now c.requires.each))
