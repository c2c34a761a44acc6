use Rattle.std.proofs.Common.{◌≡◌, ap, sym, ◌∙◌}
use Rattle.drf_shares.specs.Sums.{plus_rows}
use Rattle.drf_pick.specs.Shares.{Holder, is_holder, holding}
use Rattle.drf_pick.proofs.Places.{first_at}
use Rattle.drf_pick.proofs.RoleSums.{holder_room, role_room}
use Rattle.drf_pick.proofs.holdings.give_in.Goals as goal

pub returns-then-has_names_of-clause-holders : goal.returns-then-has_names_of-clause-holders
returns-then-has_names_of-clause-holders c =
    let test = is_holder c.args.framework in
    let at = c.requires.at in
    let first = first_at test c.args.holders.now.items c.args.place c.index_mut.result.now at c.index_mut.ensures.value in
    rw c.add.ensures (sym (first.changed (holding c.args.resources.now)))

pub returns-then-has_names_of-clause-roles : goal.returns-then-has_names_of-clause-roles
returns-then-has_names_of-clause-roles c =
    let at = c.requires.at in
    let read = first_at (is_holder c.args.framework) c.args.holders.now.items c.args.place c.index-then-has_names_of.result.now at c.index-then-has_names_of.ensures in
    rw read.found c.in_ok-give.ensures.ok

pub returns-clause-holders : goal.returns-clause-holders
returns-clause-holders c =
    let test = is_holder c.args.framework in
    let xs = c.args.holders.now.items in
    let at = c.requires.at in
    let read = first_at test xs c.args.place c.index-2.result.now at c.index-2.ensures in
    let first = first_at test xs c.args.place c.index_mut-2.result.now at c.index_mut-2.ensures.value in
    let same : c.index-2.result.now ≡ c.index_mut-2.result.now = cc (read.found, first.found) in
    let held : c.in_ok-held.held ≡ plus_rows c.index_mut-2.result.now.held c.args.resources.now =
    c.in_ok-held.ensures ∙ ap (λ (h : Holder). plus_rows h.held c.args.resources.now) same in
    rw held (sym (first.changed (holding c.args.resources.now)))

pub returns-clause-roles : goal.returns-clause-roles
returns-clause-roles c =
    let at = c.requires.at in
    let read = first_at (is_holder c.args.framework) c.args.holders.now.items c.args.place c.index-3.result.now at c.index-3.ensures in
    rw read.found c.in_ok-give-2.ensures.ok

pub give-requires : goal.give-requires
give-requires c = role_room c.args.resources.now c.args.holders.now.items c.args.roles.now c.index-then-has_names_of.result.now.role c.requires.sums c.requires.room

pub give-requires-2 : goal.give-requires-2
give-requires-2 c = role_room c.args.resources.now c.args.holders.now.items c.args.roles.now c.index-3.result.now.role c.requires.sums c.requires.room

pub add-requires-clause-room : goal.add-requires-clause-room
add-requires-clause-room c =
    let first = first_at (is_holder c.args.framework) c.args.holders.now.items c.args.place c.index_mut.result.now c.requires.at c.index_mut.ensures.value in
    holder_room c.args.framework c.args.resources.now c.args.holders.now.items c.index_mut.result.now first.found c.requires.room

pub plus-requires : goal.plus-requires
plus-requires c =
    let first = first_at (is_holder c.args.framework) c.args.holders.now.items c.args.place c.index-2.result.now c.requires.at c.index-2.ensures in
    holder_room c.args.framework c.args.resources.now c.args.holders.now.items c.index-2.result.now first.found c.requires.room
