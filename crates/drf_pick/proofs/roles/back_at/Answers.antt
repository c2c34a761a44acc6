use Rattle.std.proofs.Common.{◌≡◌, ap, sym, ◌∙◌, Err}
use Rattle.quantity.specs.Rows.{rest_of}
use Rattle.drf_pick.specs.Shares.{RoleSum, is_role, role_returning}
use Rattle.drf_shares.specs.declared.fault.SharesFault.{SharesFault}
use Rattle.drf_shares.specs.declared.fault.SharesFault.TheVariants.{NotHeld}
use Rattle.drf_pick.proofs.Places.{first_at}
use Rattle.drf_pick.proofs.roles.back_at.Goals as goal

pub returns-in-Ok-clause-ok : goal.returns-in-Ok-clause-ok
returns-in-Ok-clause-ok c =
    let read = first_at (is_role c.args.role.now) c.args.sums.now.items c.args.place c.index.result.now c.requires c.index.ensures in
    let first = first_at (is_role c.args.role.now) c.args.sums.now.items c.args.place c.index_mut.result.now c.requires c.index_mut.ensures.value in
    let same : c.index.result.now ≡ c.index_mut.result.now = cc (read.found, first.found) in
    let held : c.in-Ok.held ≡ rest_of c.index_mut.result.now.held c.args.resources.now =
    c.in-Ok.ensures.ok ∙ ap (λ (r : RoleSum). rest_of r.held c.args.resources.now) same in
    rw held (sym (first.changed (role_returning c.args.resources.now)))

pub returns-in-Ok-clause-covered : goal.returns-in-Ok-clause-covered
returns-in-Ok-clause-covered c =
    let read = first_at (is_role c.args.role.now) c.args.sums.now.items c.args.place c.index.result.now c.requires c.index.ensures in
    rw read.found c.in-Ok.ensures.covered

pub returns-in-Err-clause-refused : goal.returns-in-Err-clause-refused
returns-in-Err-clause-refused c = λ e.
    let is : c.in-Err.fault ≡ NotHeld = cc in
    let read = first_at (is_role c.args.role.now) c.args.sums.now.items c.args.place c.index.result.now c.requires c.index.ensures in
    rw read.found (c.in-Err.ensures.refused (ap (λ (f : SharesFault). Err f) is))
