-- The master's steps that make no offer and launch nothing.
use Rattle.std.proofs.Common.{Bool, true, false, List, [], ◌∷◌, ◌++◌, map, filter, Option, Some, None}
use Rattle.std.specs.Prelude.{if◌then◌else◌}
use Rattle.std.specs.List.{AllByRecursion as Each, find}
use Rattle.names_core.specs.Ids.{Numbered}
use Rattle.messages.specs.declared.task.Offer.{Offer}
use Rattle.messages.specs.declared.mail.AgentMail.{AgentMail}
use Rattle.messages.specs.declared.mail.AgentMail.TheVariants.{Report, Applied, Update}
use Rattle.messages.specs.declared.refusal.MasterRefusal.{MasterRefusal}
use Rattle.messages.specs.declared.refusal.MasterRefusal.TheVariants.{OtherRun, OldSession, Closed, NotOpen, NotSubscribed, WrongStream, NoSuchFramework, LimitExceeded}
use Rattle.cluster_model.specs.Sides.{Side, opens, SendEnd, SendHello, Lose}
use Rattle.cluster_model.specs.Events.{Failure}
use Rattle.cluster_model.specs.Masters.{Framework, Master, Move, AtSide, MasterEffect, nothing, events_to_all, is_of, withdraws_on, withdraws, without_filters_on}
use Rattle.cluster_model.specs.Calls.{is_stream}
use Rattle.cluster_model.specs.Mails.{judged, rescinds, loses, is_to_end, session_opens, goes_with, mailed_as, mail_effect, agent_lost, hung_up_by, hung_up}
use Rattle.cluster_safe.proofs.Silent.{QuietMove}

pub mapped_quiet : {X : Type 0} (f : X → Move) → ((x : X) → QuietMove (f x)) → (xs : List X) → Each QuietMove (map f xs)
mapped_quiet f g [] = tt
mapped_quiet f g (x ∷ xs) = (g x, mapped_quiet f g xs)

pub withdraws_quiet : (test : Offer → Bool) (m : Master) → Each QuietMove (withdraws test m)
withdraws_quiet test m = mapped_quiet (withdraws_on test) (λ s. tt) m.sides

if_quiet : (b : Bool) (x y : MasterEffect) → Each QuietMove x.moves → Each QuietMove y.moves → Each QuietMove (if b then x else y).moves
if_quiet true x y h k = h
if_quiet false x y h k = k

goes_quiet : (m : Master) (s : Side) (mail : AgentMail) → Each QuietMove (goes_with m s mail).moves
goes_quiet m s (Report session number tasks total) = if_quiet (opens m.run s session number) (session_opens m s tasks) (nothing m) (mapped_quiet (λ (f : Framework). AtSide s.name (SendEnd f.id)) (λ f. tt) (filter (is_to_end m tasks) m.registers.frameworks)) tt
goes_quiet m s (Applied session count) = tt
goes_quiet m s (Update session key k state ended) = tt

mailed_as_quiet : (m : Master) (s : Side) (mail : AgentMail) (o : Option MasterRefusal) → Each QuietMove (mailed_as m s mail o).moves
mailed_as_quiet m s mail None = goes_quiet m s mail
mailed_as_quiet m s mail (Some refusal) = refusal_quiet refusal
  where
    refusal_quiet : (r : MasterRefusal) → Each QuietMove (mailed_as m s mail (Some r)).moves
    refusal_quiet OtherRun = tt
    refusal_quiet OldSession = (tt, tt)
    refusal_quiet Closed = (tt, tt)
    refusal_quiet NotOpen = (tt, tt)
    refusal_quiet NotSubscribed = (tt, tt)
    refusal_quiet WrongStream = (tt, tt)
    refusal_quiet NoSuchFramework = (tt, tt)
    refusal_quiet LimitExceeded = (tt, tt)

pub mailed_quiet : (m : Master) (s : Side) (mail : AgentMail) → Each QuietMove (mail_effect m s mail).moves
mailed_quiet m s mail = mailed_as_quiet m s mail (judged m.run s mail)

pub lost_quiet : (m : Master) (s : Side) → Each QuietMove (agent_lost m s).moves
lost_quiet m s = by s.is_open
  where
    by : (b : Bool) → Each QuietMove (if b then record { refusal = None; moves = AtSide s.name Lose ∷ AtSide s.name SendHello ∷ []; events = rescinds m s.offers ++ loses m s.name s.booked ++ events_to_all m.registers.frameworks (Failure s.name); opens = []; closes = []; registers = without_filters_on s.name m.registers } else nothing m).moves
    by true = (tt, (tt, tt))
    by false = tt

hung_by_quiet : (m : Master) (stream : Numbered) (o : Option Framework) → Each QuietMove (hung_up_by m stream o).moves
hung_by_quiet m stream None = tt
hung_by_quiet m stream (Some f) = withdraws_quiet (is_of f.id) m

pub hung_quiet : (m : Master) (stream : Numbered) → Each QuietMove (hung_up m stream).moves
hung_quiet m stream = hung_by_quiet m stream (find (λ f. is_stream stream f.stream) m.registers.frameworks)
