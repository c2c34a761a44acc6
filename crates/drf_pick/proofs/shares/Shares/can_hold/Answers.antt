use Rattle.std.proofs.Common.{ℕ, List, ap, arith}
use Rattle.quantity.specs.Rows.{amount}
use Rattle.drf_pick.specs.Shares.{Tally, all_held}
use Rattle.drf_pick.proofs.shares.Shares.can_hold.Goals as goal

pub returns : goal.returns
returns c =
    let same = λ (name : List ℕ). ap (λ (t : Tally). amount name (all_held t.holders)) c.self.view_is in (
      λ e. λ name. omega (arith, c.can_add.ensures.0 e name, c.in_ok-held.ensures name, same name),
      λ can. c.can_add.ensures.1 (λ name. omega (arith, can name, c.in_ok-held.ensures name, same name)),
    )
