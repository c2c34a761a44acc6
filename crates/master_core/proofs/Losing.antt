-- Where an agent is lost nothing is refused.
use Rattle.std.proofs.Common.{◌≡◌, ℕ, Bool, true, false, List, [], ◌∷◌, None, refl, bytes_eq}
use Rattle.std.specs.Prelude.{if◌then◌else◌}
use Rattle.cluster_model.specs.Sides.{Side}
use Rattle.cluster_model.specs.Masters.{MasterEffect, Master, nothing}
use Rattle.cluster_model.specs.Mails.{agent_lost}
use Rattle.master_agents.specs.Looks.{value_of}
use Rattle.master_agents.specs.Named.{lost_by}

abbrev NotRefused : MasterEffect → Type 0
NotRefused d = d.refusal ≡ None

lost_so : (m : Master) (s : Side) → NotRefused (agent_lost m s)
lost_so m s = by s.is_open _ _ refl refl
  where
    by : (b : Bool) (d e : MasterEffect) → NotRefused d → NotRefused e → NotRefused (if b then d else e)
    by true d e h k = h
    by false d e h k = k

told_so : (m : Master) (agent : List ℕ) (ss : List Side) → NotRefused (value_of agent (agent_lost m) (nothing m) ss)
told_so m agent [] = refl
told_so m agent (s ∷ ss) = by (bytes_eq s.name agent) (lost_so m s) (told_so m agent ss)
  where
    by : (b : Bool) → NotRefused (agent_lost m s) → NotRefused (value_of agent (agent_lost m) (nothing m) ss)
        → NotRefused (if b then agent_lost m s else value_of agent (agent_lost m) (nothing m) ss)
    by true here rest = here
    by false here rest = rest

pub not_refused : (m : Master) (agent : List ℕ) → (lost_by m agent).refusal ≡ None
not_refused m agent = told_so m agent m.sides
