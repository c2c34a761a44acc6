-- Good openings: records over which a cluster may be opened.
use Rattle.std.specs.Prelude.{◌≢◌, ℕ, ◌≤◌, ◌<◌, List, [], ◌∷◌, map, flat_map, sum_by, ⊤}
use Rattle.std.specs.List.{AllByRecursion as Each}
use Rattle.names_core.specs.Ids.{Numbered}
use Rattle.quantity.specs.Rows.{amount}
use Rattle.messages.specs.declared.task.Job.{Job}
use Rattle.messages.specs.declared.record.RecordParts.{RecordParts}
use Rattle.cluster_model.specs.Agents.{live_tasks}

-- the live tasks of a record have together at most what the agent owns
abbrev pub RecordFits : RecordParts → Type 0
RecordFits d =
    (name : List ℕ) → sum_by (λ t. amount name t.job.resources) (live_tasks d.tasks)
    ≤ amount name d.total

-- the tasks of all records
abbrev pub recorded_jobs : List RecordParts → List Job
recorded_jobs records = flat_map (λ d. map (λ t. t.job) d.tasks) records

-- the offers that the tasks of all records came from
abbrev pub recorded_offers : List RecordParts → List Numbered
recorded_offers records = flat_map (λ d. flat_map (λ t. t.offers) d.tasks) records

-- no launch key occurs twice
abbrev pub KeysOnce : List Job → Type 0
KeysOnce [] = ⊤
KeysOnce (j ∷ js) = Each (λ i. i.key ≢ j.key) js × KeysOnce js

-- no name occurs twice
abbrev pub NamesOnce : List (List ℕ) → Type 0
NamesOnce [] = ⊤
NamesOnce (n ∷ ns) = Each (λ m. m ≢ n) ns × NamesOnce ns

pub record GoodOpening (run : ℕ) (records : List RecordParts) : Type 0 where
  pub fits : Each RecordFits records
  pub older : Each (λ d. d.run < run) records
  pub keys_older : Each (λ j. j.key.run < run) (recorded_jobs records)
  pub frameworks_older : Each (λ j. j.framework.run < run) (recorded_jobs records)
  pub offers_older : Each (λ id. id.run < run) (recorded_offers records)
  pub keys_once : KeysOnce (recorded_jobs records)
  pub names_once : NamesOnce (map (λ d. d.name) records)
