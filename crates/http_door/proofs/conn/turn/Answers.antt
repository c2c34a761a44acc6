use Rattle.std.proofs.Common.{◌++◌, [], refl}
use Rattle.http_door.specs.Exchange.{over, idle}
use Rattle.http_door.proofs.Requests.{head_then}
use Rattle.http_door.proofs.Turns.{turn_planned, turn_refused}
use Rattle.http_door.proofs.conn.turn.Goals as goal

pub returns-in-Ok-Planned-clause-turned : goal.returns-in-Ok-Planned-clause-turned
returns-in-Ok-Planned-clause-turned g c =
    let found = c.in-Ok-Planned.ensures.found in
    let head = rw c.in-Ok-Planned.field-0-is at found.2 in
    let did = c.answer_plan.ensures.answered in (
      found.0 ++ did.0,
      did.1,
      did.2,
      g.met.I.Inlet.reads_more _ _ _ _ _ found.1 did.3,
      did.4,
      did.5,
      turn_planned c.answer_plan.result c.in-Ok-Planned.plan _ head.0 head.1 (c.next_head.new.unread ++ did.0) _ did.1 did.2 _
          (head_then c.args.unread.now found.0 did.0 head.0 head.1 c.next_head.new.unread head.2) head.3 did.6,
    )

pub returns-in-Ok-Refused-clause-turned : goal.returns-in-Ok-Refused-clause-turned
returns-in-Ok-Refused-clause-turned g c =
    let found = c.in-Ok-Refused.ensures.found in
    let has = rw c.in-Ok-Refused.field-0-is at found.2 in
    let did = c.refuse_last.ensures.sent in
    (found.0, [], did.0, found.1, refl, did.1, turn_refused c.refuse_last.result _ _ c.in-Ok-Refused.fault did.0 _ has did.2)

pub returns-in-Ok-Over-clause-turned : goal.returns-in-Ok-Over-clause-turned
returns-in-Ok-Over-clause-turned g c =
    let found = c.in-Ok-Over.ensures.found in
    let has = rw c.in-Ok-Over.field-0-is at found.2 in
    (found.0, [], [], found.1, refl, g.met.O.Outlet.writes_nothing _, over has refl refl)

pub returns-in-Err-clause-turned : goal.returns-in-Err-clause-turned
returns-in-Err-clause-turned g c =
    let found = c.in-Err.ensures.found in
    (found.0, [], [], found.1, refl, g.met.O.Outlet.writes_nothing _, idle refl refl)
