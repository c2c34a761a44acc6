-- The codes and names of refusals.
use Rattle.std.specs.Prelude.{ℕ, List, codes}
use Rattle.messages.specs.declared.refusal.AgentRefusal.{AgentRefusal}
use Rattle.messages.specs.declared.refusal.AgentRefusal.TheVariants as agents
use Rattle.messages.specs.declared.refusal.MasterRefusal.{MasterRefusal}
use Rattle.messages.specs.declared.refusal.MasterRefusal.TheVariants as masters

unfoldable pub agent_refusal_text : AgentRefusal → List ℕ
agent_refusal_text agents.NotForMe = codes "A1 NotForMe"
agent_refusal_text agents.OldSession = codes "A2 OldSession"
agent_refusal_text agents.NotNext = codes "A3 NotNext"
agent_refusal_text agents.NoSuchTask = codes "A4 NoSuchTask"
agent_refusal_text agents.Ended = codes "A5 Ended"
agent_refusal_text agents.NoRoom = codes "A6 NoRoom"
agent_refusal_text agents.UpdatesFull = codes "A9 UpdatesFull"
agent_refusal_text agents.SessionsSpent = codes "A10 SessionsSpent"
agent_refusal_text agents.TotalLess = codes "A11 TotalLess"

unfoldable pub master_refusal_text : MasterRefusal → List ℕ
master_refusal_text masters.OtherRun = codes "G1 OtherRun"
master_refusal_text masters.OldSession = codes "G2 OldSession"
master_refusal_text masters.Closed = codes "G3 Closed"
master_refusal_text masters.NotOpen = codes "G4 NotOpen"
master_refusal_text masters.NotSubscribed = codes "M1 NotSubscribed"
master_refusal_text masters.WrongStream = codes "M2 WrongStream"
master_refusal_text masters.NoSuchFramework = codes "M3 NoSuchFramework"
master_refusal_text masters.LimitExceeded = codes "M4 LimitExceeded"
