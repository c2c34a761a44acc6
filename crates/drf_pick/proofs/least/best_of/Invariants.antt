use Rattle.std.proofs.Common.{◌≡◌, None, fold, take, IfSome}
use Rattle.std.specs.Option.{option_copied}
use Rattle.drf_pick.specs.Least.{better_client}
use Rattle.drf_pick.specs.ClientShares.{IsClientShare}
use Rattle.drf_pick.proofs.least.best_of.Given as goal

abbrev pub invariant-loop-place : goal.invariant-loop-place
invariant-loop-place l = record {
  best : option_copied l.best ≡ fold (better_client l.shares) None (take l.place l.clients);
  share : IfSome (option_copied l.best) (λ b. IsClientShare l.shares b.framework b.role l.share);
}
