use Rattle.std.proofs.Common.{◌≡◌, ◌≤◌, List, ◌++◌, take}
use Rattle.serde_json.specs.Data.{items_depth, members_depth}
use Rattle.serde_json.specs.View.{items_view, members_view}
use Rattle.serde_json.proofs.Views.{Entry}
use Rattle.call_json.proofs.nesting.+nests_within.Given as goal

abbrev pub invariant-items_nest_within-loop-item : goal.invariant-items_nest_within-loop-item
invariant-items_nest_within-loop-item l = items_depth (items_view (take l.item-index l.item-items)) ≤ l.levels

abbrev pub invariant-members_nest_within-loop-member : goal.invariant-members_nest_within-loop-member
invariant-members_nest_within-loop-member l =
    (done : List Entry) × (l.members.entries ≡ done ++ l.member-iterator) × (members_depth (members_view done) ≤ l.levels)
