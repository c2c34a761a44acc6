use Rattle.std.proofs.Common.{nat_lt, rules}
use Rattle.std.proofs.lemmas.List.Elements.{filter_from_retain}
use Rattle.quantity.specs.Rows.{Row}
use Rattle.quantity.proofs.rows.drop_spent.Goals as goal

pub returns : goal.returns
returns c = filter_from_retain _ (λ (r : Row). nat_lt 0 r.amount) (λ p x b q h. search rules) _ _ _ c.retain.ensures.filtered
