use Rattle.std.proofs.Common.{◌≡◌, ap, sym, ◌∙◌}
use Rattle.std.proofs.Common.{List, Option, subst}
use Rattle.quantity.specs.declared.rows.Row.{Row}
use Rattle.drf_shares.specs.Sums.{CanAdd, plus_rows}
use Rattle.drf_pick.specs.Shares.{RoleSum, is_role, role_holding}
use Rattle.drf_pick.proofs.Places.{first_at}
use Rattle.drf_pick.proofs.Shown.{held_of}
use Rattle.drf_pick.proofs.roles.give_at.Goals as goal

pub returns-then-has_names_of-clause-ok : goal.returns-then-has_names_of-clause-ok
returns-then-has_names_of-clause-ok c =
    let test = is_role c.args.role.now in
    let first = first_at test c.args.sums.now.items c.args.place c.index_mut.result.now c.requires.at c.index_mut.ensures.value in
    rw c.add.ensures (sym (first.changed (role_holding c.args.resources.now)))

pub returns-clause-ok : goal.returns-clause-ok
returns-clause-ok c =
    let test = is_role c.args.role.now in
    let xs = c.args.sums.now.items in
    let read = first_at test xs c.args.place c.index-2.result.now c.requires.at c.index-2.ensures in
    let first = first_at test xs c.args.place c.index_mut-2.result.now c.requires.at c.index_mut-2.ensures.value in
    let same : c.index-2.result.now ≡ c.index_mut-2.result.now = cc (read.found, first.found) in
    let held : c.in_ok-held.held ≡ plus_rows c.index_mut-2.result.now.held c.args.resources.now =
    c.in_ok-held.ensures ∙ ap (λ (r : RoleSum). plus_rows r.held c.args.resources.now) same in
    rw held (sym (first.changed (role_holding c.args.resources.now)))

pub add-requires-clause-room : goal.add-requires-clause-room
add-requires-clause-room c =
    let first = first_at (is_role c.args.role.now) c.args.sums.now.items c.args.place c.index_mut.result.now c.requires.at c.index_mut.ensures.value in
    subst (λ (rows : List Row). CanAdd rows c.args.resources.now) (ap (λ (o : Option RoleSum). held_of o) first.found) c.requires.room

pub plus-requires : goal.plus-requires
plus-requires c =
    let first = first_at (is_role c.args.role.now) c.args.sums.now.items c.args.place c.index-2.result.now c.requires.at c.index-2.ensures in
    subst (λ (rows : List Row). CanAdd rows c.args.resources.now) (ap (λ (o : Option RoleSum). held_of o) first.found) c.requires.room
