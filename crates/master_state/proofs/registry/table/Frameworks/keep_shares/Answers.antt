use Rattle.std.proofs.Common.{◌≤◌, List, length, sym, subst, arith}
use Rattle.std.proofs.lemmas.List.{take_all}
use Rattle.messages.specs.declared.framework.Framework.{Framework}
use Rattle.drf_pick.specs.Shown.{AreCounted}
use Rattle.master_state.specs.LastRound.{clients_of}
use Rattle.master_state.proofs.registry.table.Frameworks.keep_shares.Goals as goal

pub invariant_of-self : goal.invariant_of-self
invariant_of-self c =
    let all : length c.self.inside.items.items ≤ c.len.result = omega (arith, c.len.ensures) in (
      c.self.invariant.0,
      c.self.invariant.1,
      rw (c.of.ensures, take_all c.len.result c.self.inside.items.items all) (subst (λ (fs : List Framework). AreCounted (clients_of fs) c.args.shares) (sym c.self.view_is) c.requires),
      c.self.invariant.3,
    )
