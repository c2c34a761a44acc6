-- Acknowledged: which calls acknowledged what an agent's record counts as acknowledged.
use Rattle.std.specs.Prelude.{◌≡◌, ◌⊎◌, ℕ, ◌<◌, List, [], ◌∷◌, flat_map}
use Rattle.std.specs.List.{AllByRecursion as Each}
use Rattle.names_core.specs.Ids.{Numbered}
use Rattle.messages.specs.declared.call.Call.TheVariants.{Acknowledge}
use Rattle.messages.specs.declared.record.RecordParts.{RecordParts}
use Rattle.messages.specs.declared.record.RecordedTask.{RecordedTask}
use Rattle.cluster_model.specs.Channels.{World}
use Rattle.cluster_model.specs.Clusters.{Post, Called}

-- an ACKNOWLEDGE of this framework names this update
abbrev pub Names : Numbered → Numbered → ℕ → Post → Type 0
Names framework key k (Called stream (Acknowledge f agent task uuid)) =
    (f ≡ framework) × (uuid.key ≡ key) × (uuid.k ≡ k)
Names framework key k post = ⊥

-- such a call was sent
abbrev pub WasSent : Numbered → Numbered → ℕ → List Post → Type 0
WasSent framework key k [] = ⊥
WasSent framework key k (post ∷ posts) = Names framework key k post ⊎ WasSent framework key k posts

-- the records of the opening count it as acknowledged
abbrev pub WasCounted : Numbered → ℕ → List RecordedTask → Type 0
WasCounted key k [] = ⊥
WasCounted key k (t ∷ ts) = ((t.job.key ≡ key) × (k < t.updates.acknowledged)) ⊎ WasCounted key k ts

abbrev pub recorded_tasks : List RecordParts → List RecordedTask
recorded_tasks records = flat_map (λ d. d.tasks) records

-- each update that a record counts as acknowledged was named by a sent ACKNOWLEDGE of the
-- task's own framework, or was counted at the opening
abbrev pub AcknowledgedByOwner : List RecordParts → World → List Post → Type 0
AcknowledgedByOwner records w posts =
    Each (λ c. Each (λ t. (k : ℕ) → k < t.updates.acknowledged
    → WasSent t.job.framework t.job.key k posts ⊎ WasCounted t.job.key k (recorded_tasks records))
    c.agent.durable.tasks) w.channels
