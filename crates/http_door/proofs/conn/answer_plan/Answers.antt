use Rattle.std.proofs.Common.{◌++◌, [], ℕ, List, ◌∙◌, append-nil, refl, subst}
use Rattle.http_door.specs.Turns.{waits_body}
use Rattle.http_door.proofs.Sent.{all_of}
use Rattle.http_door.proofs.Turns.{plan_whole, plan_refused}
use Rattle.http_door.proofs.conn.answer_plan.Goals as goal

pub returns-in-Err-clause-answered : goal.returns-in-Err-clause-answered
returns-in-Err-clause-answered g c =
    let first = c.in-Err.ensures.sent in
    ([], [], first.0, g.met.I.Inlet.reads_nothing _, refl, first.1, waits_body first.2.0 refl first.2.1)

pub returns-in-Ok-Whole-clause-answered : goal.returns-in-Ok-Whole-clause-answered
returns-in-Ok-Whole-clause-answered g c =
    let first = c.in-Ok.ensures.sent in
    let found = c.in-Ok-Whole.ensures.found in
    let has = rw c.in-Ok-Whole.field-0-is at found.2 in
    let did = c.answer_body.ensures.answered in (
      found.0,
      did.0,
      first.0 ++ did.1,
      subst (λ (t : List ℕ). g.I.Inlet.reads c.args.inlet.now t c.answer_body.new.inlet) (append-nil found.0) (g.met.I.Inlet.reads_more _ _ _ _ _ found.1 c.answer_body.ensures.unread),
      did.2,
      g.met.O.Outlet.writes_more _ _ _ _ _ first.1 did.3,
      plan_whole c.answer_body.result c.args.plan _ _ c.in-Ok-Whole.body.items _ did.0 first.0 did.1 has first.2 did.4,
    )

pub returns-in-Ok-Refused-clause-answered : goal.returns-in-Ok-Refused-clause-answered
returns-in-Ok-Refused-clause-answered g c =
    let first = c.in-Ok.ensures.sent in
    let found = c.in-Ok-Refused.ensures.found in
    let has = rw c.in-Ok-Refused.field-0-is at found.2 in
    let did = c.refuse_last.ensures.sent in (
      found.0,
      [],
      first.0 ++ did.0,
      found.1,
      refl,
      g.met.O.Outlet.writes_more _ _ _ _ _ first.1 did.1,
      plan_refused c.refuse_last.result c.args.plan _ _ c.in-Ok-Refused.fault first.0 did.0 _ has first.2 did.2,
    )

pub returns-in-Err-read_body-clause-answered : goal.returns-in-Err-read_body-clause-answered
returns-in-Err-read_body-clause-answered g c =
    let first = c.in-Ok.ensures.sent in
    let found = c.in-Err-read_body.ensures.found in
    (found.0, [], first.0, found.1, refl, first.1, waits_body _ refl (first.2 ∙ all_of _))
