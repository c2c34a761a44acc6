use Rattle.std.proofs.Common.{◌≡◌, ap, ◌∙◌, string_bytes}
use Rattle.serde_json.specs.View.{view, members_view}
use Rattle.serde_json.proofs.Views.{members_view-insert_entry}
use Rattle.event_json.specs.Texts.{whole}
use Rattle.event_json.proofs.Rows.{put_next}
use Rattle.event_json.proofs.record.write.members_of.Goals as goal

pub loop-row-preserved : goal.loop-row-preserved
loop-row-preserved c =
    let r = c.row-item.result in
    let named : string_bytes c.in_ok-name.name ≡ r.name = c.in_ok-name.ensures.ok ∙ c.as_str.ensures in
    let valued : view c.from.result ≡ whole r.amount = c.from.ensures in
    ap members_view c.in_ok-insert.ensures.entries ∙ (members_view-insert_entry c.loop-row.members.entries c.in_ok-name.name c.from.result
    ∙ rw (named, valued, c.loop-row.invariant) (put_next c.args.rows.now c.loop-row.row-index r c.loop-row-test.true c.row-item.is c.requires))
