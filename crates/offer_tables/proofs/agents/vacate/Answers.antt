use Rattle.std.proofs.Common.{false, [], ap, ◌∙◌}
use Rattle.offer_tables.specs.Rows.{IsEmptied, amounts_left}
use Rattle.offer_tables.proofs.Changed.{changed_set}
use Rattle.offer_tables.proofs.agents.vacate.Goals as goal

pub returns : goal.returns
returns c =
    changed_set (IsEmptied false []) c.args.agents.now.items c.args.place c.index_mut-row.result.now _ c.requires c.index_mut-row.ensures.value
    (λ i. record { name = c.index_mut-row.result.now.name; is_in = false; total = c.new.ensures i; free = (c.whole-row.ensures ∙ ap (λ rows. amounts_left rows []) c.new.ensures) i })
