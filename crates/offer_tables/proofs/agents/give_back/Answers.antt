use Rattle.std.proofs.Common.{refl}
use Rattle.offer_tables.specs.Rows.{IsGivenBack}
use Rattle.offer_tables.specs.declared.agents.AgentRow.{AgentRow}
use Rattle.offer_tables.proofs.Changed.{changed_set}
use Rattle.offer_tables.proofs.agents.give_back.Goals as goal

pub returns : goal.returns
returns c =
    let r = c.index_mut-row.result.now in
    let s : AgentRow = record { name = r.name; is_in = r.is_in; total = r.total; free = c.with_back-row.result } in
    changed_set (IsGivenBack c.args.more.now) c.args.agents.now.items c.args.place r s c.requires c.index_mut-row.ensures.value
    (record { same_name = refl; same_in = refl; same_total = refl; back = c.with_back-row.ensures })
