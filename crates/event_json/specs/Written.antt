-- Records, and their texts.
use Rattle.std.specs.Prelude.{◌≡◌, ◌⊎◌, ℕ, ◌<◌, ◌^◌, true, List}
use Rattle.std.specs.List.{AllByRecursion}
use Rattle.names_core.specs.Ids.{InRange}
use Rattle.names_core.specs.Names.{is_name}
use Rattle.quantity.specs.Rows.{AreRows}
use Rattle.stream_core.specs.Updates.{are_updates}
use Rattle.messages.specs.declared.task.Job.{Job}
use Rattle.messages.specs.declared.record.RecordParts.{RecordParts}
use Rattle.messages.specs.declared.record.RecordedTask.{RecordedTask}
use Rattle.event_json.specs.Texts.{record_form, first_form}

-- what the types of a job's parts keep: ids, a name and amounts
abbrev pub IsJob : Job → Type 0
IsJob job =
    InRange job.key × InRange job.framework × (is_name job.name ≡ true) × AreRows job.resources

-- what the types of a task's parts keep: ids, a name, amounts,
-- and updates of which so many are acknowledged
pub record IsTask (t : RecordedTask) : Type 0 where
  pub key : InRange t.job.key
  pub framework : InRange t.job.framework
  pub named : is_name t.job.name ≡ true
  pub resources : AreRows t.job.resources
  pub offers : AllByRecursion InRange t.offers
  pub updates : are_updates t.updates.states t.updates.acknowledged ≡ true

-- what the types of a record's parts keep
pub record IsDurable (d : RecordParts) : Type 0 where
  pub named : is_name d.name ≡ true
  pub total : AreRows d.total
  pub session : d.session < 2 ^ 32
  pub run : d.run < 2 ^ 32
  pub tasks : AllByRecursion IsTask d.tasks

-- the text is the written form of the record, or the one that it had before
pub record IsWritten (d : RecordParts) (text : List ℕ) : Type 0 where
  pub durable : IsDurable d
  pub form : (text ≡ record_form d) ⊎ (text ≡ first_form d)
