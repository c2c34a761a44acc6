use Rattle.std.proofs.Common.{◌≡◌, None, fold, take, IfSome}
use Rattle.std.specs.Option.{option_copied}
use Rattle.drf_pick.specs.ClientShares.{IsClientShare}
use Rattle.master_rounds.specs.Picks.{better_eligible}
use Rattle.master_rounds.proofs.shares.pick.best_of.Given as goal

abbrev pub invariant-loop-place : goal.invariant-loop-place
invariant-loop-place l = record {
  best : option_copied l.best ≡ fold (better_eligible l.now l.agent l.free l.shares) None (take l.place l.frameworks);
  share : IfSome (option_copied l.best) (λ f. IsClientShare l.shares f.id f.role l.share);
}
