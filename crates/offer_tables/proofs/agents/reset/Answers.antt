use Rattle.offer_tables.specs.Rows.{IsReset}
use Rattle.offer_tables.proofs.Changed.{changed_set}
use Rattle.offer_tables.proofs.agents.reset.Goals as goal

pub returns : goal.returns
returns c =
    changed_set (IsReset c.args.total) c.args.agents.now.items c.args.place c.index_mut-row.result.now _ c.requires c.index_mut-row.ensures.value
    (λ i. record { name = c.index_mut-row.result.now.name; is_in = c.index_mut-row.result.now.is_in; total = c.args.total; free = c.whole-row.ensures i })
