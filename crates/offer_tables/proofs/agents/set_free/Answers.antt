use Rattle.std.proofs.Common.{refl}
use Rattle.offer_tables.specs.Rows.{IsLeft}
use Rattle.offer_tables.proofs.Changed.{changed_set}
use Rattle.offer_tables.proofs.agents.set_free.Goals as goal

pub returns : goal.returns
returns c = changed_set (IsLeft c.args.free) c.args.agents.now.items c.args.place c.index_mut.result.now _ c.requires c.index_mut.ensures.value refl
