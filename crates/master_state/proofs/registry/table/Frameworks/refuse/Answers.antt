use Rattle.master_state.specs.OpenStreams.{led_by}
use Rattle.master_state.proofs.Leading.{table_alike}
use Rattle.master_state.proofs.OneRole.{one_alike}
use Rattle.master_state.proofs.Clients.{clients_alike, first_alike_are}
use Rattle.master_state.proofs.Searches.{starts_refused}
use Rattle.master_state.proofs.registry.table.Frameworks.refuse.Goals as goal

pub invariant_of-self : goal.invariant_of-self
invariant_of-self c = (
  table_alike (led_by c.self.inside.by_stream) c.refuse_in.new.frameworks.items c.self.inside.items.items c.refuse_in.ensures.ids c.refuse_in.ensures.streams c.self.invariant.0,
  λ is. one_alike c.refuse_in.new.frameworks.items c.self.inside.items.items c.refuse_in.ensures.roles (c.self.invariant.1 is),
  first_alike_are c.self.inside.items.items c.refuse_in.new.frameworks.items c.self.inside.last_round (clients_alike c.refuse_in.new.frameworks.items c.self.inside.items.items c.refuse_in.ensures.ids c.refuse_in.ensures.roles) c.self.invariant.2,
  rw (c.replace-starts.ensures.after, c.new.ensures) tt,
)

pub invariant_of-self-2 : goal.invariant_of-self-2
invariant_of-self-2 c = (
  table_alike (led_by c.self.inside.by_stream) c.refuse_in.new.frameworks.items c.self.inside.items.items c.refuse_in.ensures.ids c.refuse_in.ensures.streams c.self.invariant.0,
  λ is. one_alike c.refuse_in.new.frameworks.items c.self.inside.items.items c.refuse_in.ensures.roles (c.self.invariant.1 is),
  first_alike_are c.self.inside.items.items c.refuse_in.new.frameworks.items c.self.inside.last_round (clients_alike c.refuse_in.new.frameworks.items c.self.inside.items.items c.refuse_in.ensures.ids c.refuse_in.ensures.roles) c.self.invariant.2,
  rw (c.in_ok-refuse_in.ensures.ok, c.cut_on.ensures, c.replace-starts.ensures.value, c.place_in-place.ensures.place, c.deref.ensures.value) (starts_refused c.args.now c.args.seconds c.args.agent.now c.args.refused.now c.args.id c.self.inside.items.items c.self.inside.starts c.self.invariant.3),
)
