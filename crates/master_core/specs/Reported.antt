-- The tasks of a Report, found by their launch keys and by their frameworks.
use Rattle.std.specs.Prelude.{List, [], fold}
use Rattle.std.specs.BTreeSet.{insert_key}
use Rattle.names_core.specs.Ids.{Numbered}
use Rattle.std.specs.Ordering.{nat_cmp, ordering_then}
use Rattle.std.specs.declared.cmp.Ordering.{Ordering}
use Rattle.messages.specs.declared.task.Booked.{Booked}

-- ids by run, then by number
abbrev pub id_cmp : Numbered → Numbered → Ordering
id_cmp a b = ordering_then (nat_cmp a.run b.run) (nat_cmp a.n b.n)

abbrev pub with_key : List Numbered → Booked → List Numbered
with_key ids t = insert_key id_cmp ids t.job.key

abbrev pub with_framework : List Numbered → Booked → List Numbered
with_framework ids t = insert_key id_cmp ids t.job.framework

-- the launch keys of tasks, each once, in their order
abbrev pub keys_of : List Booked → List Numbered
keys_of tasks = fold with_key [] tasks

-- the frameworks of tasks, each once, in their order
abbrev pub frameworks_of : List Booked → List Numbered
frameworks_of tasks = fold with_framework [] tasks
