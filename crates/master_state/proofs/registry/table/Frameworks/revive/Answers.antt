use Rattle.std.proofs.Common.{map, refl}
use Rattle.master_state.specs.Frameworks.{changed, place_of, revived}
use Rattle.master_state.specs.OpenStreams.{led_by}
use Rattle.master_state.proofs.Ordered.{changed_keeps}
use Rattle.master_state.proofs.Leading.{table_kept, changed_keeps_stream}
use Rattle.master_state.proofs.OneRole.{one_kept, changed_keeps_role}
use Rattle.master_state.proofs.Clients.{first_kept}
use Rattle.master_state.proofs.Searches.{changed_front, cut_all}
use Rattle.master_state.proofs.registry.table.Frameworks.revive.Goals as goal

pub invariant_of-self : goal.invariant_of-self
invariant_of-self c = rw (c.revive_in.ensures, c.cut.ensures, c.place_in-place.ensures.place, c.deref.ensures.value) (
  table_kept (led_by c.self.inside.by_stream) (changed revived c.args.id) c.self.inside.items.items (changed_keeps revived c.args.id (λ f. refl)) (changed_keeps_stream revived c.args.id (λ f. refl)) c.self.invariant.0,
  λ is. one_kept (changed revived c.args.id) c.self.inside.items.items (changed_keeps_role revived c.args.id (λ f. refl)) (c.self.invariant.1 is),
  first_kept (changed revived c.args.id) c.self.inside.items.items c.self.inside.last_round (changed_keeps revived c.args.id (λ f. refl)) (changed_keeps_role revived c.args.id (λ f. refl)) c.self.invariant.2,
  cut_all c.self.inside.items.items (map (changed revived c.args.id) c.self.inside.items.items) (place_of c.args.id c.self.inside.items.items) c.self.inside.starts (changed_front revived c.args.id c.self.inside.items.items) c.self.invariant.3,
)
