-- Which acknowledgements reach an agent.
use Rattle.std.specs.Prelude.{◌≡◌, ◌⊎◌, ℕ, List}
use Rattle.std.specs.List.{AllByRecursion as Each}
use Rattle.names_core.specs.Ids.{Numbered}
use Rattle.messages.specs.declared.mail.Command.TheVariants.{Ack}
use Rattle.messages.specs.declared.mail.MasterMail.{MasterMail}
use Rattle.messages.specs.declared.mail.MasterMail.TheVariants.{Issued}
use Rattle.messages.specs.declared.record.RecordParts.{RecordParts}
use Rattle.messages.specs.declared.task.Job.{Job}
use Rattle.cluster_model.specs.Channels.{Channel, World}
use Rattle.cluster_model.specs.Clusters.{Post}
use Rattle.cluster_safe.specs.Acknowledged.{WasSent, WasCounted, recorded_tasks}
use Rattle.cluster_safe.specs.Honest.{IsKeyOf}

-- where the mail is an Ack of an update, a sent ACKNOWLEDGE of the task's own framework
-- named the update, or a record of the opening counts it
abbrev pub IsOwnersAck : List RecordParts → List Job → List Post → MasterMail → Type 0
IsOwnersAck records jobs posts mail =
    (session number : ℕ) (framework key : Numbered) (k : ℕ)
    → mail ≡ Issued session number (Ack key k) → IsKeyOf framework key jobs →
    WasSent framework key k posts ⊎ WasCounted key k (recorded_tasks records)

-- so is every mail that was ever sent to an agent
abbrev pub AcksAreOwners : List RecordParts → List Job → World → List Post → Type 0
AcksAreOwners records jobs w posts =
    Each (λ (c : Channel). Each (IsOwnersAck records jobs posts) c.to_agent) w.channels
