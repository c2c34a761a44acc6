use Rattle.std.proofs.Common.{◌≡◌, length, take}
use Rattle.drf_pick.specs.Fractions.{OfRoles}
use Rattle.drf_pick.proofs.fractions.of_roles.Given as goal

abbrev pub invariant-loop-role : goal.invariant-loop-role
invariant-loop-role l = OfRoles l.totals (take l.role-index l.roles) l.fractions.items × (length l.fractions.items ≡ l.role-index)
