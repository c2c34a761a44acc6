-- What a stop may leave of a cluster's records.
use Rattle.std.specs.Prelude.{◌≡◌, List, map}
use Rattle.std.specs.List.{Contains}
use Rattle.std.specs.List.Sorted.{IsPermutation}
use Rattle.quantity.specs.Laws.{AtLeast}
use Rattle.master_agents.specs.declared.config.ConfiguredAgent.{ConfiguredAgent}
use Rattle.messages.specs.declared.record.RecordParts.{RecordParts}
use Rattle.messages.specs.declared.record.RecordedTask.{RecordedTask}
use Rattle.cluster_model.specs.Agents.{live_tasks}
use Rattle.cluster_model.specs.Clusters.{Cluster}
use Rattle.cluster_safe.specs.Saved.{IsFound}

-- for each agent its record or that of its open draft, in any order
pub record AreFound (c : Cluster) (found : List RecordParts) : Type 0 where
  pub by_agent : List RecordParts
  pub is_found : IsFound c.world.channels by_agent
  pub moved : IsPermutation by_agent found

-- each agent is configured to own at least what a record of its name says
abbrev pub AreCovered : List ConfiguredAgent → List RecordParts → Type 0
AreCovered agents records =
    (a : ConfiguredAgent) (d : RecordParts) → Contains agents a → Contains records d → a.name ≡ d.name
    → AtLeast a.total d.total

-- the live tasks of each agent
abbrev pub live_in : Cluster → List (List RecordedTask)
live_in c = map (λ x. live_tasks x.agent.durable.tasks) c.world.channels

-- the live tasks of each record
abbrev pub live_of : List RecordParts → List (List RecordedTask)
live_of records = map (λ d. live_tasks d.tasks) records
