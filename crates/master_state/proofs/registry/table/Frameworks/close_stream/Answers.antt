use Rattle.std.proofs.Common.{refl}
use Rattle.master_state.specs.Frameworks.{changed, without_stream}
use Rattle.master_state.specs.OpenStreams.{led_by}
use Rattle.master_state.proofs.Ordered.{changed_keeps}
use Rattle.master_state.proofs.Leading.{table_closed}
use Rattle.master_state.proofs.OneRole.{one_kept, changed_keeps_role}
use Rattle.master_state.proofs.Clients.{first_kept}
use Rattle.master_state.proofs.Searches.{changed_makes_none, closed_makes_none, starts_kept}
use Rattle.master_state.proofs.registry.table.Frameworks.close_stream.Goals as goal

pub invariant_of-self : goal.invariant_of-self
invariant_of-self c = rw c.close_in.ensures (
  table_closed (led_by c.self.inside.by_stream) (led_by c.shut.new.by_stream) c.self.inside.items.items c.args.id c.open_stream-stream.result c.self.invariant.0 (rw c.deref.ensures.value at c.open_stream-stream.ensures) c.shut.ensures,
  λ is. one_kept (changed without_stream c.args.id) c.self.inside.items.items (changed_keeps_role without_stream c.args.id (λ f. refl)) (c.self.invariant.1 is),
  first_kept (changed without_stream c.args.id) c.self.inside.items.items c.self.inside.last_round (changed_keeps without_stream c.args.id (λ f. refl)) (changed_keeps_role without_stream c.args.id (λ f. refl)) c.self.invariant.2,
  starts_kept (changed without_stream c.args.id) c.self.inside.items.items c.self.inside.starts (λ agent. changed_makes_none agent without_stream c.args.id (closed_makes_none agent)) c.self.invariant.3,
)
