use Rattle.std.proofs.Common.{refl}
use Rattle.master_state.specs.Frameworks.{changed, suppressed}
use Rattle.master_state.specs.OpenStreams.{led_by}
use Rattle.master_state.proofs.Ordered.{changed_keeps}
use Rattle.master_state.proofs.Leading.{table_kept, changed_keeps_stream}
use Rattle.master_state.proofs.OneRole.{one_kept, changed_keeps_role}
use Rattle.master_state.proofs.Clients.{first_kept}
use Rattle.master_state.proofs.Searches.{changed_makes_none, suppressed_makes_none, starts_kept}
use Rattle.master_state.proofs.registry.table.Frameworks.suppress.Goals as goal

pub invariant_of-self : goal.invariant_of-self
invariant_of-self c = rw c.suppress_in.ensures (
  table_kept (led_by c.self.inside.by_stream) (changed suppressed c.args.id) c.self.inside.items.items (changed_keeps suppressed c.args.id (λ f. refl)) (changed_keeps_stream suppressed c.args.id (λ f. refl)) c.self.invariant.0,
  λ is. one_kept (changed suppressed c.args.id) c.self.inside.items.items (changed_keeps_role suppressed c.args.id (λ f. refl)) (c.self.invariant.1 is),
  first_kept (changed suppressed c.args.id) c.self.inside.items.items c.self.inside.last_round (changed_keeps suppressed c.args.id (λ f. refl)) (changed_keeps_role suppressed c.args.id (λ f. refl)) c.self.invariant.2,
  starts_kept (changed suppressed c.args.id) c.self.inside.items.items c.self.inside.starts (λ agent. changed_makes_none agent suppressed c.args.id (suppressed_makes_none agent)) c.self.invariant.3,
)
