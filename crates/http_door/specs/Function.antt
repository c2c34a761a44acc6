-- What makes two exchanges the same: their input, the bench's answers, and where memory ran out.
use Rattle.std.specs.Prelude.{◌≡◌, ℕ, Bool, true, false, List, [], ◌∷◌, length, Option, Some, None, if◌then◌else◌, ⊤}
use Rattle.names_core.specs.Ids.{Numbered}
use Rattle.messages.specs.declared.call.Call.{Call}
use Rattle.http_head.specs.declared.plan.Plan.{Plan}
use Rattle.http_door.specs.Deeds.{Deed, calls, nexts, hangs_up}
use Rattle.http_door.specs.Exchange.{Responds, unread, spent, accepted, rejected, streamed, Ends, over, refuses_early, responded, Exchange}

-- what a bench is asked
pub data Question : Type 0 where
  to_take : (stream : Option Numbered) → (call : Call) → Question
  for_next : (stream : Numbered) → Question
  to_hang_up : (stream : Numbered) → Question

abbrev pub question : Deed → Question
question (calls stream call answer) = to_take stream call
question (nexts stream answer) = for_next stream
question (hangs_up stream) = to_hang_up stream

-- the benches answer alike: as long as the deeds are the same,
-- the same question has the same answer
abbrev pub AnswersAlike : List Deed → List Deed → Type 0
AnswersAlike [] others = ⊤
AnswersAlike (deed ∷ deeds) [] = ⊤
AnswersAlike (deed ∷ deeds) (other ∷ others) =
    question deed ≡ question other → (deed ≡ other) × AnswersAlike deeds others

-- the reading of the call ran out of memory
abbrev pub is_spent : {plan : Plan} {body : List ℕ} {on : Bool} {deeds : List Deed} {text : List ℕ}
    → Responds plan body on deeds text → Bool
is_spent (unread cause reads goes asked says) = false
is_spent (spent goes asked says) = true
is_spent (accepted call reads goes asked says) = false
is_spent (rejected call fault reads goes asked says) = false
is_spent (streamed call stream events reads goes asked says) = false

abbrev pub ends_spent : {input : List ℕ} {ended : Type 0} {deeds : List Deed} {sent : List ℕ}
    → Ends input ended deeds sent → Bool
ends_spent (over none asked says) = false
ends_spent (refuses_early fault before refuses asked says) = false
ends_spent (responded plan body rest text has responds says) = is_spent responds

-- after how many answered requests the reading of a call ran out of memory
abbrev pub spent_at : {input : List ℕ} {ended : Type 0} {deeds : List Deed} {sent : List ℕ}
    → Exchange input ended deeds sent → Option ℕ
spent_at exchange = if ends_spent exchange.ends then Some (length exchange.before) else None

-- two exchanges over one input are the same,
-- where the benches answer alike and memory ran out at the same request or at none
abbrev pub IsFunction : Type 0 → Type 0 → Type 0
IsFunction ended end =
    (input : List ℕ) (deeds others : List Deed) (sent text : List ℕ)
    (one : Exchange input ended deeds sent) (other : Exchange input end others text)
    → AnswersAlike deeds others → spent_at one ≡ spent_at other → (deeds ≡ others) × (sent ≡ text)
