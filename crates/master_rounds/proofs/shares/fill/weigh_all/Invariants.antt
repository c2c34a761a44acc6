use Rattle.std.proofs.Common.{◌≡◌, ◌++◌, length, map, take, drop}
use Rattle.drf_pick.specs.Shares.{reweighed}
use Rattle.master_rounds.specs.Weighing.{with_roles}
use Rattle.master_rounds.proofs.shares.fill.weigh_all.Given as goal

abbrev pub invariant-loop-place : goal.invariant-loop-place
invariant-loop-place l = record {
  many : length l.shares.roles ≡ length l.fn.shares.roles;
  weighed : l.shares ≡ with_roles (map (reweighed l.weights) (take l.place l.fn.shares.roles) ++ drop l.place l.fn.shares.roles) l.fn.shares;
}
