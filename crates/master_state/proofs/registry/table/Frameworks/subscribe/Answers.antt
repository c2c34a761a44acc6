use Rattle.std.proofs.Common.{refl}
use Rattle.cluster_model.specs.Masters.{put_framework}
use Rattle.master_state.specs.Frameworks.{place_of, subscriber}
use Rattle.master_state.proofs.Clients.{put_front}
use Rattle.master_state.proofs.OneRole.{one_put}
use Rattle.master_state.proofs.Searches.{cut_all}
use Rattle.master_state.proofs.registry.table.Frameworks.subscribe.Goals as goal

pub invariant_of-self : goal.invariant_of-self
invariant_of-self c =
    let fs = c.self.inside.items.items in (
      c.put_open.ensures.table,
      λ is. rw c.in_err-put_open.ensures.err (c.self.invariant.1 is),
      rw c.in_err-put_open.ensures.err (rw c.deref.ensures.value at c.cut_for.ensures.last_round),
      rw (c.in_err-put_open.ensures.err, c.cut.ensures) (cut_all fs fs c.place_in-place.result c.self.inside.starts refl c.self.invariant.3),
    )

pub invariant_of-self-2 : goal.invariant_of-self-2
invariant_of-self-2 c =
    let fs = c.self.inside.items.items in
    let f = subscriber c.args.id c.args.role c.args.stream c.args.now in (
      c.put_open.ensures.table,
      λ is. rw (c.in_ok-put_open.ensures.ok, c.new.ensures) (one_put f fs (rw c.self.view_is (c.have_role-is_one_role.ensures is))),
      rw (c.in_ok-put_open.ensures.ok, c.new.ensures) (rw c.deref.ensures.value at c.cut_for.ensures.put f refl refl),
      rw (c.in_ok-put_open.ensures.ok, c.new.ensures, c.cut.ensures, c.place_in-place.ensures.place, c.deref-2.ensures.value)
          (cut_all fs (put_framework f fs) (place_of c.args.id fs) c.self.inside.starts (put_front f fs c.self.invariant.0.ordered) c.self.invariant.3),
    )
