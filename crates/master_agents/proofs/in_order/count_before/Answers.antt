use Rattle.std.proofs.Common.{rules, of_calls}
use Rattle.std.proofs.lemmas.Fn.{always_returns_same}
use Rattle.names_core.specs.Names.{bytes_before}
use Rattle.master_agents.proofs.Ordered.{parted}
use Rattle.master_agents.proofs.in_order.count_before.Goals as goal

pub returns-clause-point : goal.returns-clause-point
returns-clause-point c ordered = c.partition_point.ensures.partitioned (λ s. bytes_before s.name c.args.name.now) (always_returns_same _ _ _ (λ a r f k. search (rules, of_calls))) (parted c.args.name.now c.args.entries.now ordered)
