use Rattle.std.proofs.Common.{[], refl}
use Rattle.http_door.proofs.Responses.{of_call, no_call}
use Rattle.http_door.proofs.conn.answer_body.Goals as goal

pub returns-in-Ok-clause-answered : goal.returns-in-Ok-clause-answered
returns-in-Ok-clause-answered g c =
    let did = c.answer_call.ensures.answered in
    (did.0, did.1, did.2, did.3, of_call c.answer_call.result c.args.plan c.in-Ok.call c.args.body.items did.0 did.1 c.in-Ok.ensures did.4)

pub returns-in-Err-clause-answered : goal.returns-in-Err-clause-answered
returns-in-Err-clause-answered g c =
    let did = c.refuse_last.ensures.sent in
    ([], did.0, refl, did.1, no_call c.refuse_last.result c.args.plan c.in-Err.fault c.args.body.items did.0 c.in-Err.ensures did.2)
