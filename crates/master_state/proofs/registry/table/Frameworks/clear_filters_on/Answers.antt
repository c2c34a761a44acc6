use Rattle.std.proofs.Common.{map, refl}
use Rattle.cluster_model.specs.Masters.{clear_on}
use Rattle.master_state.specs.OpenStreams.{led_by}
use Rattle.master_state.proofs.Leading.{table_kept}
use Rattle.master_state.proofs.OneRole.{one_kept}
use Rattle.master_state.proofs.Clients.{first_kept}
use Rattle.master_state.proofs.Searches.{cut_all}
use Rattle.master_state.proofs.registry.table.Frameworks.clear_filters_on.Goals as goal

pub invariant_of-self : goal.invariant_of-self
invariant_of-self c = rw (c.clear_in.ensures, c.cut.ensures) (
  table_kept (led_by c.self.inside.by_stream) (clear_on c.args.agent.now) c.self.inside.items.items (λ f. refl) (λ f. refl) c.self.invariant.0,
  λ is. one_kept (clear_on c.args.agent.now) c.self.inside.items.items (λ f. refl) (c.self.invariant.1 is),
  first_kept (clear_on c.args.agent.now) c.self.inside.items.items c.self.inside.last_round (λ f. refl) (λ f. refl) c.self.invariant.2,
  cut_all c.self.inside.items.items (map (clear_on c.args.agent.now) c.self.inside.items.items) 0 c.self.inside.starts refl c.self.invariant.3,
)
