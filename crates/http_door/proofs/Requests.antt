-- Requests when more has come.
use Rattle.std.proofs.Common.{ℕ, List, [], ◌∷◌, ◌++◌, sym, ap, ◌∙◌, subst, refl, append_assoc, append-nil}
use Rattle.httparse.specs.Grammar.{RequestHead}
use Rattle.http_head.specs.declared.cut.Place.TheVariants.{Front, Start}
use Rattle.http_head.specs.declared.plan.Body.{Body}
use Rattle.http_head.specs.declared.plan.Body.TheVariants.{Sized, Chunked}
use Rattle.http_head.specs.declared.plan.Plan.{Plan}
use Rattle.http_head.specs.Requests.{HasHead}
use Rattle.http_head.specs.Bodies.{HasBody, HasEnd}
use Rattle.http_head.proofs.RequestParts.{part_more}
use Rattle.http_head.proofs.Chunked.{line_more, chunks_more}
use Rattle.http_door.specs.Deeds.{Deed}
use Rattle.http_door.specs.Exchange.{HasRequest, Answers, Serves}

head_more : (input text : List ℕ) (h : RequestHead) (rest more : List ℕ) → HasHead input text h rest → HasHead (input ++ more) text h (rest ++ more)
head_more input text h rest more at = record { part = part_more Front input text rest more at.part; is = at.is }

pub head_then : (old m n text : List ℕ) (h : RequestHead) (rest : List ℕ) → HasHead (old ++ m) text h rest → HasHead (old ++ (m ++ n)) text h (rest ++ n)
head_then old m n text h rest at = subst (λ (t : List ℕ). HasHead t text h (rest ++ n)) (append_assoc old m n) (head_more (old ++ m) text h rest n at)

end_more : (input rest more : List ℕ) → HasEnd input rest → HasEnd (input ++ more) (rest ++ more)
end_more input rest more e = record {
  line = e.line;
  after = e.after ++ more;
  trailers = e.trailers;
  at = line_more input e.line e.after more e.at;
  size = e.size;
  part = part_more Start e.after e.trailers rest more e.part;
  are = e.are;
}

body_more : (b : Body) (input body rest more : List ℕ) → HasBody b input body rest → HasBody b (input ++ more) body (rest ++ more)
body_more (Sized n) input body rest more has = (ap (λ (t : List ℕ). t ++ more) has.0 ∙ append_assoc body rest more, has.1)
body_more Chunked input body rest more has = record {
  chunks = has.chunks;
  after = has.after ++ more;
  are = chunks_more has.chunks input has.after more has.are;
  end = end_more has.after rest more has.end;
  body_is = has.body_is;
  within = has.within;
}

pub request_more : (input : List ℕ) (plan : Plan) (body rest more : List ℕ) → HasRequest input plan body rest → HasRequest (input ++ more) plan body (rest ++ more)
request_more input plan body rest more has = record {
  text = has.text;
  head = has.head;
  after = has.after ++ more;
  at = head_more input has.text has.head has.after more has.at;
  check = has.check;
  body_at = body_more plan.body has.after body rest more has.body_at;
}

answers_more : (input : List ℕ) (deed : Deed) (sent rest more : List ℕ) → Answers input deed sent rest → Answers (input ++ more) deed sent (rest ++ more)
answers_more input deed sent rest more x = record {
  plan = x.plan;
  body = x.body;
  text = x.text;
  has = request_more input x.plan x.body rest more x.has;
  responds = x.responds;
  sent_is = x.sent_is;
}

pub serves_more : (input : List ℕ) (deeds : List Deed) (sent rest more : List ℕ) → Serves input deeds sent rest → Serves (input ++ more) deeds sent (rest ++ more)
serves_more input [] sent rest more s = (s.0, ap (λ (t : List ℕ). t ++ more) s.1)
serves_more input (deed ∷ deeds) sent rest more s =
    (s.0, s.1, s.2 ++ more, s.3, answers_more input deed s.0 s.2 more s.4, serves_more s.2 deeds s.1 rest more s.5)

-- one more answered request
pub serves_then : (input : List ℕ) (deeds : List Deed) (sent middle : List ℕ) (deed : Deed) (text rest : List ℕ)
    → Serves input deeds sent middle → Answers middle deed text rest → Serves input (deeds ++ deed ∷ []) (sent ++ text) rest
serves_then input [] sent middle deed text rest s x =
    (text, [], rest, ap (λ (t : List ℕ). t ++ text) s.0 ∙ sym (append-nil text), subst (λ (t : List ℕ). Answers t deed text rest) (sym s.1) x, (refl, refl))
serves_then input (first ∷ deeds) sent middle deed text rest s x =
    (s.0, s.1 ++ text, s.2, ap (λ (t : List ℕ). t ++ text) s.3 ∙ append_assoc s.0 s.1 text, s.4, serves_then s.2 deeds s.1 middle deed text rest s.5 x)
