-- Which call a launch comes from.
use Rattle.std.specs.Prelude.{◌≡◌, ◌⊎◌, ℕ, List, [], ◌∷◌, ⊤}
use Rattle.std.specs.List.{AllByRecursion as Each}
use Rattle.names_core.specs.Ids.{Numbered}
use Rattle.messages.specs.declared.task.Job.{Job}
use Rattle.messages.specs.declared.call.Call.{Call}
use Rattle.messages.specs.declared.call.Call.TheVariants.{Accept}
use Rattle.messages.specs.declared.call.TaskInfo.{TaskInfo}
use Rattle.cluster_model.specs.Sides.{SideStep, LaunchFrom, MakeOffer}
use Rattle.cluster_model.specs.Masters.{Move, AtSide}

-- a list of tasks has one of the job's name and resources, on this agent
abbrev pub IsListed : List ℕ → List TaskInfo → Job → Type 0
IsListed agent [] j = ⊥
IsListed agent (t ∷ ts) j =
    ((t.name ≡ j.name) × (t.agent ≡ agent) × (t.resources ≡ j.resources)) ⊎ IsListed agent ts j

-- the call is an ACCEPT of this framework,
-- which names these offers and lists each of these jobs on this agent
abbrev pub IsAcceptOf : List ℕ → Numbered → List Numbered → List Job → Call → Type 0
IsAcceptOf agent framework ids jobs (Accept f offers tasks seconds) =
    (f ≡ framework) × (offers ≡ ids) × Each (λ j. IsListed agent tasks j) jobs
IsAcceptOf agent framework ids jobs call = ⊥

-- what a call may do at a side: it launches only as an ACCEPT lists it, and makes no offer
abbrev pub StepFrom : Call → List ℕ → SideStep → Type 0
StepFrom call agent (LaunchFrom framework ids jobs) = IsAcceptOf agent framework ids jobs call
StepFrom call agent (MakeOffer offer) = ⊥
StepFrom call agent step = ⊤

abbrev pub MoveFrom : Call → Move → Type 0
MoveFrom call (AtSide agent step) = StepFrom call agent step
MoveFrom call m = ⊤

-- at no other occasion is anything launched
abbrev pub StepWithout : SideStep → Type 0
StepWithout (LaunchFrom framework ids jobs) = ⊥
StepWithout step = ⊤

abbrev pub MoveWithout : Move → Type 0
MoveWithout (AtSide agent step) = StepWithout step
MoveWithout m = ⊤
