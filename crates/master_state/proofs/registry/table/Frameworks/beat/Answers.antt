use Rattle.cluster_model.specs.Mails.{after_heartbeat}
use Rattle.master_state.specs.OpenStreams.{led_by}
use Rattle.master_state.proofs.Ordered.{beaten_keeps}
use Rattle.master_state.proofs.Leading.{table_kept, beaten_keeps_stream}
use Rattle.master_state.proofs.OneRole.{one_kept, beaten_keeps_role}
use Rattle.master_state.proofs.Clients.{first_kept}
use Rattle.master_state.proofs.Searches.{beaten_makes_none, starts_kept}
use Rattle.master_state.proofs.registry.table.Frameworks.beat.Goals as goal

pub invariant_of-self : goal.invariant_of-self
invariant_of-self c = rw c.beat_in.ensures (
  table_kept (led_by c.self.inside.by_stream) (after_heartbeat c.args.now) c.self.inside.items.items (beaten_keeps c.args.now) (beaten_keeps_stream c.args.now) c.self.invariant.0,
  λ is. one_kept (after_heartbeat c.args.now) c.self.inside.items.items (beaten_keeps_role c.args.now) (c.self.invariant.1 is),
  first_kept (after_heartbeat c.args.now) c.self.inside.items.items c.self.inside.last_round (beaten_keeps c.args.now) (beaten_keeps_role c.args.now) c.self.invariant.2,
  starts_kept (after_heartbeat c.args.now) c.self.inside.items.items c.self.inside.starts (beaten_makes_none c.args.now) c.self.invariant.3,
)
