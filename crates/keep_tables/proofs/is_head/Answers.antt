use Rattle.std.proofs.Common.{rules}
use Rattle.keep_tables.specs.Schemas.{head_columns}
use Rattle.keep_tables.proofs.is_head.Goals as goal

pub returns-else-is_lone : goal.returns-else-is_lone
returns-else-is_lone c = (λ yes. search rules, λ has. c.is_lone.ensures.is head_columns has)
