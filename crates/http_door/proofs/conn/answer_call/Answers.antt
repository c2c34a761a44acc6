use Rattle.std.proofs.Common.{◌∷◌, [], List, not, ap, ◌∙◌, refl, take}
use Rattle.http_door.specs.declared.bench.Answer.TheVariants.{Accepted, Opened, Refused}
use Rattle.http_door.specs.Deeds.{Deed, calls}
use Rattle.http_door.specs.Exchange.{accepted, streamed, responding, streaming}
use Rattle.http_door.proofs.Deeds.{or_spent_behind}
use Rattle.http_door.proofs.Responses.{rejected_call, same_error}
use Rattle.http_door.proofs.conn.answer_call.Goals as goal

pub returns-in-Ok-clause-answered : goal.returns-in-Ok-clause-answered
returns-in-Ok-clause-answered g c =
    let sent = c.in-Ok.ensures.sent in (
      calls c.args.plan.stream c.args.call Accepted ∷ [],
      sent.0,
      (c.call-answer.new.self, c.in-Accepted.ensures, refl),
      sent.1,
      λ body is. accepted c.args.call is refl refl (sent.2 ∙ c.accepted_response.ensures),
    )

pub returns-in-Err-clause-answered : goal.returns-in-Err-clause-answered
returns-in-Err-clause-answered g c =
    let sent = c.in-Err.ensures.sent in (
      calls c.args.plan.stream c.args.call Accepted ∷ [],
      sent.0,
      (c.call-answer.new.self, c.in-Accepted.ensures, refl),
      sent.1,
      λ body is. responding (not c.args.plan.closes) _ sent.2.0 refl (accepted c.args.call is refl refl refl) (sent.2.1 ∙ ap (take sent.2.0) c.accepted_response.ensures),
    )

pub returns-in-Refused-clause-answered : goal.returns-in-Refused-clause-answered
returns-in-Refused-clause-answered g c =
    let sent = c.refuse_last.ensures.sent in (
      calls c.args.plan.stream c.args.call (Refused c.in-Refused.fault) ∷ [],
      sent.0,
      (c.call-answer.new.self, c.in-Refused.ensures, refl),
      sent.1,
      rejected_call c.refuse_last.result c.args.plan c.args.call c.in-Refused.fault sent.0 sent.2,
    )

pub returns-in-Ok-serve_stream-clause-answered : goal.returns-in-Ok-serve_stream-clause-answered
returns-in-Ok-serve_stream-clause-answered g c =
    let did = c.in-Ok-serve_stream.ensures.sent in
    let opened = calls c.args.plan.stream c.args.call (Opened c.in-Opened.stream) in (
      opened ∷ did.0,
      did.1,
      (c.call-answer.new.self, c.in-Opened.ensures, did.2),
      did.3,
      λ body is. streamed c.args.call c.in-Opened.stream did.4.0 is refl (ap (λ (d : List Deed). opened ∷ d) did.4.1) did.4.2,
    )

pub returns-in-Err-serve_stream-clause-answered : goal.returns-in-Err-serve_stream-clause-answered
returns-in-Err-serve_stream-clause-answered g c =
    let did = c.in-Err-serve_stream.ensures.sent in (
      calls c.args.plan.stream c.args.call (Opened c.in-Opened.stream) ∷ did.0,
      did.1,
      (c.call-answer.new.self, c.in-Opened.ensures, did.2),
      did.3,
      λ body is. streaming c.args.call c.in-Opened.stream did.0 is refl did.4,
    )

pub returns-in-Err-serve_stream-clause-link : goal.returns-in-Err-serve_stream-clause-link
returns-in-Err-serve_stream-clause-link g c e =
    or_spent_behind g.B.Bench.does _ _ _ (calls c.args.plan.stream c.args.call (Opened c.in-Opened.stream) ∷ []) (c.call-answer.new.self, c.in-Opened.ensures, refl) (c.in-Err-serve_stream.ensures.link (same_error _ _ e))
