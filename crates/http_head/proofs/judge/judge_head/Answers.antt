use Rattle.std.proofs.Common.{◌≡◌, refl, subst, arith}
use Rattle.std.specs.Prelude.{Ok}
use Rattle.httparse.specs.declared.Error.{Error}
use Rattle.httparse.specs.declared.Status.{Status}
use Rattle.httparse.specs.declared.spans.RequestSpans.{RequestSpans}
use Rattle.httparse.specs.Outcome.{IfComplete}
use Rattle.httparse.specs.Spans.{IsRequestOf}
use Rattle.http_head.specs.Heads.{IsHead, head_check}
use Rattle.http_head.proofs.Judged.{check_is, err_judged, is_head, ok_judged}
use Rattle.http_head.proofs.judge.judge_head.Goals as goal

-- the head that was parsed
found : (c : goal.After-check) → IsRequestOf c.args.text.now c.parse_request.new.headers c.in-Ok-Complete.head
found c = subst (λ (s : Status RequestSpans). IfComplete {E = Error} (Ok s) (IsRequestOf c.args.text.now c.parse_request.new.headers)) c.in-Ok-Complete.field-0-is c.in-Ok-Complete.ensures.complete

parsed : (c : goal.After-check) → IsHead c.args.text.now (found c).0
parsed c = is_head c.args.text.now c.parse_request.new.headers c.in-Ok-Complete.head (found c).0 (found c).1 c.if-head-text.false (omega (arith, c.parse_request.auto.headers))

checked : (c : goal.After-check) → head_check (found c).0 ≡ c.check.result
checked c = rw (check_is c.args.text.now c.parse_request.new.headers c.in-Ok-Complete.head (found c).0 (found c).1, c.check.ensures.value, c.of-target.ensures, c.of-method.ensures) refl

pub returns-clause-ok : goal.returns-clause-ok
returns-clause-ok c = ok_judged c.check.result c.args.text.now (found c).0 (parsed c) (checked c)

pub returns-clause-err : goal.returns-clause-err
returns-clause-err c = err_judged c.check.result c.args.text.now (found c).0 (parsed c) (checked c)
