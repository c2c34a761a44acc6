use Rattle.std.proofs.Common.{◌≡◌, take}
use Rattle.serde_json.specs.View.{members_view}
use Rattle.event_json.specs.Texts.{row_members}
use Rattle.event_json.proofs.record.write.members_of.Given as goal

abbrev pub invariant-loop-row : goal.invariant-loop-row
invariant-loop-row l = members_view l.members.entries ≡ row_members (take l.row-index l.rows)
