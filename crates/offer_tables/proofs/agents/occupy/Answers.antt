use Rattle.std.proofs.Common.{true}
use Rattle.offer_tables.specs.Rows.{IsEmptied}
use Rattle.offer_tables.proofs.Changed.{changed_set}
use Rattle.offer_tables.proofs.agents.occupy.Goals as goal

pub returns : goal.returns
returns c =
    changed_set (IsEmptied true c.args.total) c.args.agents.now.items c.args.place c.index_mut-row.result.now _ c.requires c.index_mut-row.ensures.value
    (λ i. record { name = c.index_mut-row.result.now.name; is_in = true; total = c.args.total; free = c.whole-row.ensures i })
