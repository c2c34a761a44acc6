use Rattle.std.proofs.Common.{sym, subst}
use Rattle.offer_tables.specs.Rows.{IsFirst, is_row_named}
use Rattle.offer_tables.proofs.Placed.{named_at}
use Rattle.offer_tables.proofs.agents.named_place.Goals as goal

pub returns : goal.returns
returns c =
    subst (IsFirst (is_row_named c.args.name.now) c.args.agents.now) (sym c.get_index_of.ensures.index)
    (named_at c.args.name.now c.args.names.now.keys c.args.agents.now c.requires)
