use Rattle.std.proofs.Common.{rules, [], ◌∷◌, true}
use Rattle.keep_tables.specs.Schemas.{column_of}
use Rattle.keep_tables.proofs.is_table.Goals as goal

pub returns-else-is_lone : goal.returns-else-is_lone
returns-else-is_lone c = (λ yes. search rules, λ has. c.is_lone.ensures.is (column_of c.args.column.now c.args.kind true ∷ []) has)
