use Rattle.std.proofs.Common.{◌≤◌, length, take}
use Rattle.drf_pick.specs.Fractions.{OfRoles}
use Rattle.drf_pick.proofs.shares.renew_roles.Given as goal

abbrev pub invariant-loop-place : goal.invariant-loop-place
invariant-loop-place l = record {
  room : length l.holdings.roles ≤ length l.fractions.items;
  renewed : OfRoles l.holdings.totals (take l.place l.holdings.roles) l.fractions.items;
}
