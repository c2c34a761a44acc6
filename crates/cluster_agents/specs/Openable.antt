-- Tests of records over which a cluster may be opened.
use Rattle.std.specs.Prelude.{◌≡◌, ℕ, Bool, true, not, ◌&&◌, nat_lt, List, [], ◌∷◌, bytes_eq}
use Rattle.std.specs.List.{list_all, list_any}
use Rattle.names_core.specs.Ids.{Numbered, same}
use Rattle.quantity.specs.Rows.{covers}
use Rattle.agent_core.specs.Records.{keys_rise}
use Rattle.master_agents.specs.declared.config.ConfiguredAgent.{ConfiguredAgent}
use Rattle.messages.specs.declared.record.RecordParts.{RecordParts}
use Rattle.messages.specs.declared.record.RecordedTask.{RecordedTask}

-- every run in a task is before this one
abbrev pub is_task_before : ℕ → RecordedTask → Bool
is_task_before run t =
    nat_lt t.job.key.run run && nat_lt t.job.framework.run run
    && list_all (λ id. nat_lt id.run run) t.offers

-- every run in a record is before this one
abbrev pub is_before : ℕ → RecordParts → Bool
is_before run d = nat_lt d.run run && list_all (is_task_before run) d.tasks

abbrev pub has_key : Numbered → List RecordedTask → Bool
has_key key tasks = list_any (λ t. same t.job.key key) tasks

-- a key is in both
abbrev pub share_key : List RecordedTask → List RecordedTask → Bool
share_key ts others = list_any (λ t. has_key t.job.key others) ts

-- no key of these tasks is in the records after them
abbrev pub are_keys_new : List RecordedTask → List RecordParts → Bool
are_keys_new ts behind = list_all (λ d. not (share_key ts d.tasks)) behind

-- no key is in two records
abbrev pub are_keys_apart : List RecordParts → Bool
are_keys_apart [] = true
are_keys_apart (d ∷ ds) = are_keys_new d.tasks ds && are_keys_apart ds

abbrev pub KeysRise : RecordParts → Type 0
KeysRise d = keys_rise d.tasks ≡ true

-- the record is of this agent, which is configured to own at least what the record says
abbrev pub is_record_of : ConfiguredAgent → RecordParts → Bool
is_record_of a d = bytes_eq a.name d.name && covers a.total d.total

-- each agent has a record among them, and each of them is that of one of the agents
abbrev pub are_records_of : List ConfiguredAgent → List RecordParts → Bool
are_records_of agents records =
    list_all (λ a. list_any (λ d. is_record_of a d) records) agents
    && list_all (λ d. list_any (λ a. is_record_of a d) agents) records

-- no record after it has the name of this one
abbrev pub is_name_new : RecordParts → List RecordParts → Bool
is_name_new d behind = list_all (λ other. not (bytes_eq other.name d.name)) behind

-- no two records have one name
abbrev pub are_names_apart : List RecordParts → Bool
are_names_apart [] = true
are_names_apart (d ∷ ds) = is_name_new d ds && are_names_apart ds

-- what is required of records beside that they are those of the configured agents
abbrev pub are_good : ℕ → List RecordParts → Bool
are_good run records =
    are_names_apart records && are_keys_apart records && list_all (is_before run) records
