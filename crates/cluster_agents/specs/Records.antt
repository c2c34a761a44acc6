-- The records of configured agents, in any order.
use Rattle.std.specs.Prelude.{◌≡◌, ⊤, Bool, List, [], ◌∷◌, filter, flat_map, bytes_eq}
use Rattle.std.specs.List.{Contains}
use Rattle.std.specs.Ordering.{nat_cmp, is_lt}
use Rattle.std.specs.Cmp.Lexicographic.{slice_cmp}
use Rattle.quantity.specs.Laws.{AtLeast}
use Rattle.messages.specs.declared.record.RecordParts.{RecordParts}
use Rattle.master_agents.specs.declared.config.ConfiguredAgent.{ConfiguredAgent}

-- the record is of this agent, which is configured to own at least what the record says
abbrev pub IsRecordOf : ConfiguredAgent → RecordParts → Type 0
IsRecordOf a d = (a.name ≡ d.name) × AtLeast a.total d.total

-- each agent has a record among them, and each is that of one of the agents
pub record AreRecordsOf (agents : List ConfiguredAgent) (records : List RecordParts) : Type 0 where
  pub each : (a : ConfiguredAgent) → Contains agents a → (d : RecordParts) × Contains records d
      × IsRecordOf a d
  pub only : (d : RecordParts) → Contains records d → (a : ConfiguredAgent) × Contains agents a
      × IsRecordOf a d

-- the records are in the order of their agents: one for each, and no other
abbrev pub StandInOrder : List ConfiguredAgent → List RecordParts → Type 0
StandInOrder [] [] = ⊤
StandInOrder [] (d ∷ ds) = ⊥
StandInOrder (a ∷ as_) [] = ⊥
StandInOrder (a ∷ as_) (d ∷ ds) = IsRecordOf a d × StandInOrder as_ ds

-- the records of an agent's name
abbrev pub named : ConfiguredAgent → List RecordParts → List RecordParts
named a records = filter (λ d. bytes_eq d.name a.name) records

-- the record of each agent, in the order of the agents
abbrev pub in_order : List ConfiguredAgent → List RecordParts → List RecordParts
in_order agents records = flat_map (λ a. named a records) agents

-- the name of the first is less, in byte order
abbrev pub comes_before : RecordParts → RecordParts → Bool
comes_before c d = is_lt (slice_cmp nat_cmp c.name d.name)
