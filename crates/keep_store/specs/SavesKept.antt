-- What a store keeps: an agent's record, and the last run of the master that was assigned.
use Rattle.std.specs.Prelude.{◌≡◌, ◌≢◌, ◌⊎◌, ◌<◌, ◌^◌, ◌==◌, ⊤, ℕ, true, nat_lt, if◌then◌else◌, List, [], ◌∷◌, map, Option, Some, None, pos}
use Rattle.std.specs.Str.{IsUtf8, is_utf8}
use Rattle.std.specs.List.{AllByRecursion}
use Rattle.sqlite.specs.declared.types.Value.{Value}
use Rattle.sqlite.specs.declared.types.Value.TheVariants.{Null, Int, Text}
use Rattle.sqlite.specs.Order.{Row, column}
use Rattle.sqlite.specs.Tree.{IsAscending, Trees, rowid}
use Rattle.sqlite_rules.specs.Lists.{Has}
use Rattle.names_core.specs.Ids.{same}
use Rattle.names_core.specs.Names.{is_name}
use Rattle.quantity.specs.Rows.{AreRows}
use Rattle.messages.specs.declared.record.RecordedTask.{RecordedTask}
use Rattle.event_json.specs.Reading.{◌>>=◌, where_true, task_in, total_in}
use Rattle.keep_tables.specs.Columns.{number_at, text_at}
use Rattle.keep_tables.specs.Tables.{IsLone, IsTable, SparesOthers, amount_shown, head_of, head_row, place_of}
use Rattle.keep_tables.specs.Totals.{AreNamed, amount_rows, total_in_rows}
use Rattle.quantity.specs.declared.rows.Row.{Row as Amount}
use Rattle.messages.specs.declared.record.RecordParts.{RecordParts}
use Rattle.event_json.specs.Texts.{record_form, task_form}
use Rattle.event_json.specs.Written.{IsTask}

-- ---- what is read of a row

-- the task of a row of agent_task: its body is the written form of a task that has the row's key
unfoldable pub read_back : Row → Option RecordedTask
read_back row = do
  run ← number_at (column row 1)
  n ← number_at (column row 2)
  body ← text_at (column row 3)
  task ← task_in body
  where_true (same task.job.key (record { run = run; n = n })) task

-- a task inserted among others by its key, in place of one that has it
abbrev pub put_task : RecordedTask → List RecordedTask → List RecordedTask
put_task t [] = t ∷ []
put_task t (s ∷ ts) =
    if nat_lt (place_of s.job.key) (place_of t.job.key) then s ∷ put_task t ts
    else (if nat_lt (place_of t.job.key) (place_of s.job.key) then t ∷ s ∷ ts else t ∷ ts)

-- the tasks of the rows, by their keys
abbrev pub tasks_in : List Row → Option (List RecordedTask)
tasks_in [] = Some []
tasks_in (row ∷ rows) =
    read_back row >>= λ task. tasks_in rows >>= λ tasks. Some (put_task task tasks)

-- the record of a head, with its own total and no tasks yet
unfoldable pub own_in_row : Row → Option RecordParts
own_in_row head = do
  text ← text_at (column head 0)
  name ← where_true (is_name text) text
  run ← number_at (column head 1)
  session ← number_at (column head 2)
  body ← text_at (column head 3)
  total ← total_in body
  Some (record { name = name; total = total; session = session; run = run; tasks = [] })

abbrev pub where_none : {A B : Type 0} → List A → Option B → Option B
where_none [] found = found
where_none (x ∷ xs) found = None

-- the total of a head of a version: 1, its own, beside no row of agent_total; 2,
-- that of these rows, where its own is empty
abbrev pub total_by : ℕ → List Amount → List Row → Option (List Amount)
total_by version own amounts =
    if version == 1 then where_none amounts (Some own)
    else (if version == 2 then where_none own (total_in_rows amounts) else None)

-- a record with this total
abbrev pub with_total : List Amount → RecordParts → RecordParts
with_total total d =
    record { name = d.name; total = total; session = d.session; run = d.run; tasks = d.tasks }

-- the record of a head and of rows of agent_total, with no tasks yet
unfoldable pub head_in_row : Row → List Row → Option RecordParts
head_in_row head amounts =
    own_in_row head >>= λ d. number_at (column head 4) >>= λ version.
    total_by version d.total amounts >>= λ total. Some (with_total total d)

-- a record with these tasks
abbrev pub with_tasks : List RecordedTask → RecordParts → RecordParts
with_tasks tasks d =
    record { name = d.name; total = d.total; session = d.session; run = d.run; tasks = tasks }

-- the text of a record, and no text where there is none
abbrev pub text_of : Option RecordParts → Value
text_of None = Null
text_of (Some d) = Text (record_form d)

-- what is kept of an agent's record: the text in agent_record, or that of the record of the
-- head, the tasks and the amounts; no text where there are rows of both forms, or tasks or
-- amounts without a head
abbrev pub body_in : List Row → List Row → List Row → List Row → Option Value
body_in [] [] [] [] = None
body_in [] [] [] (amount ∷ amounts) = Some Null
body_in [] [] (task ∷ tasks) amounts = Some Null
body_in [] (head ∷ more) tasks amounts =
    Some
    (text_of (tasks_in tasks >>= λ found. head_in_row (head_of head) (map amount_shown amounts) >>=
    λ d. Some (with_tasks found d)))
body_in (row ∷ more) [] [] [] = Some (column row 2)
body_in (row ∷ more) [] [] (amount ∷ amounts) = Some Null
body_in (row ∷ more) [] (task ∷ tasks) amounts = Some Null
body_in (row ∷ more) (head ∷ heads) tasks amounts = Some Null

-- what a database keeps: an agent's record as a text, if there is one,
-- and the last run that was assigned, 0 where none was
pub record Kept : Type 0 where
  pub body : Option Value
  pub last : ℕ

abbrev pub whole : Value → ℕ
whole (Int (pos n)) = n
whole _ = 0

abbrev pub last_in : List Row → ℕ
last_in [] = 0
last_in (row ∷ more) = whole (column row 2)

-- tree 0 is the table agent_record, tree 1 run_number, tree 2 agent_head,
-- tree 3 agent_task, tree 5 agent_total
abbrev pub kept_in : Trees → Kept
kept_in db = record { body = body_in (db 0) (db 2) (db 3) (db 5); last = last_in (db 1) }

-- with this record
abbrev pub with_record : RecordParts → Kept → Kept
with_record d kept = record { body = Some (Text (record_form d)); last = kept.last }

-- with this as the last run that was assigned
abbrev pub with_last : ℕ → Kept → Kept
with_last run kept = record { body = kept.body; last = run }

-- ---- for private clauses: what is in the shown rows

-- a row is that of a task, at its place
abbrev pub IsRowOf : Row → RecordedTask → Type 0
IsRowOf row task = (read_back row ≡ Some task) × (rowid row ≡ Int (pos (place_of task.job.key)))

-- the rows are those of these tasks, each at its place
pub record AreRowsOf (rows : List Row) (Is : RecordedTask → Type 0) : Type 0 where
  pub each : (row : Row) → Has rows row → (task : RecordedTask) × Is task × IsRowOf row task
  pub all : (task : RecordedTask) → Is task → (row : Row) × Has rows row
      × (read_back row ≡ Some task)

-- there are the rows that were, and rows of these tasks
pub record Adds (tasks : List RecordedTask) (old new : Trees) : Type 0 where
  pub had : (row : Row) → Has (new 3) row → Has (old 3) row
      ⊎ ((task : RecordedTask) × Has tasks task × IsRowOf row task)
  pub kept : (row : Row) → Has (old 3) row → Has (new 3) row
  pub there : (task : RecordedTask) → Has tasks task → (row : Row) × Has (new 3) row
      × (read_back row ≡ Some task)
  pub others : SparesOthers 3 old new

-- the rows of tasks are those of the tasks that were seen last, if any were
abbrev pub Knows : Option (List RecordedTask) → Trees → Type 0
Knows None db = ⊤
Knows (Some seen) db = AreRowsOf (db 3) (Has seen)

-- where the rows of tasks were those of the tasks that were seen last, they are those of these
pub record HasTasks (seen : Option (List RecordedTask)) (tasks : List RecordedTask)
    (old new : Trees) : Type 0 where
  pub are_rows : Knows seen old → AreRowsOf (new 3) (Has tasks)
  pub others : SparesOthers 3 old new

-- a task whose row was written
pub record IsPut (t : RecordedTask) : Type 0 where
  pub is_task : IsTask t
  pub utf8 : is_utf8 (task_form t) ≡ true

-- the tasks rise by their places
abbrev pub Rise : List RecordedTask → Type 0
Rise = IsAscending (λ s t. place_of s.job.key < place_of t.job.key)

-- tasks whose rows were written, by their places
pub record ArePut (ts : List RecordedTask) : Type 0 where
  pub each : AllByRecursion IsPut ts
  pub rise : Rise ts

-- the tasks that were seen last are such, if any were
abbrev pub AreSeen : Option (List RecordedTask) → Type 0
AreSeen None = ⊤
AreSeen (Some seen) = ArePut seen

-- the parts of a record but its tasks, where its head was written
pub record IsHead (d : RecordParts) : Type 0 where
  pub named : is_name d.name ≡ true
  pub name : IsUtf8 d.name
  pub run : d.run < 2 ^ 32
  pub session : d.session < 2 ^ 32
  pub total : AreRows d.total
  pub amounts : AreNamed d.total

-- the head that was seen last was written, if any was
abbrev pub IsHeadSeen : Option RecordParts → Type 0
IsHeadSeen None = ⊤
IsHeadSeen (Some seen) = IsHead seen

-- the head and the rows of its total are those that were seen last, if any were,
-- and no record is kept as one text
abbrev pub KnowsHead : Option RecordParts → Trees → Type 0
KnowsHead None db = ⊤
KnowsHead (Some d) db =
    (db 0 ≡ []) × (db 2 ≡ head_row d.name d.run d.session ∷ []) × (db 5 ≡ amount_rows 1 d.total)

-- the rows of a total are those of the head that was seen last, if any was
abbrev pub KnowsTotal : Option RecordParts → Trees → Type 0
KnowsTotal None db = ⊤
KnowsTotal (Some d) db = db 5 ≡ amount_rows 1 d.total

-- where the rows of a total were those of the head that was seen last, they are those of this total
pub record HasTotal (seen : Option RecordParts) (total : List Amount) (old new : Trees) : Type 0 where
  pub rows : KnowsTotal seen old → new 5 ≡ amount_rows 1 total
  pub others : SparesOthers 5 old new

-- no row of a task is left
pub record HasNoTask (old new : Trees) : Type 0 where
  pub none : new 3 ≡ []
  pub others : SparesOthers 3 old new

-- the row of the head is this one, and no record is kept as one text
pub record ReplacesHead (row : Row) (old new : Trees) : Type 0 where
  pub records : IsLone (old 0) → new 0 ≡ []
  pub heads : IsLone (old 2) → new 2 ≡ row ∷ []
  pub others : (t : ℕ) → t ≢ 0 → t ≢ 2 → IsTable t → new t ≡ old t

-- where the head was the one that was seen last,
-- it and the rows of its total are those of this record, and no record is kept as one text
pub record HasHead (seen : Option RecordParts) (d : RecordParts) (old new : Trees) : Type 0 where
  pub records : KnowsHead seen old → IsLone (old 0) → new 0 ≡ []
  pub heads : KnowsHead seen old → IsLone (old 2) → new 2 ≡ head_row d.name d.run d.session ∷ []
  pub amounts : KnowsHead seen old → new 5 ≡ amount_rows 1 d.total
  pub others : (t : ℕ) → t ≢ 0 → t ≢ 2 → t ≢ 5 → IsTable t → new t ≡ old t

-- the rows are those of this record,
-- where those of the head and tasks that were seen last were there
pub record HasRecord (seen : Option (List RecordedTask)) (head_seen : Option RecordParts) (d : RecordParts)
    (old new : Trees) : Type 0 where
  pub records : KnowsHead head_seen old → IsLone (old 0) → new 0 ≡ []
  pub heads : KnowsHead head_seen old → IsLone (old 2)
      → new 2 ≡ head_row d.name d.run d.session ∷ []
  pub amounts : KnowsHead head_seen old → new 5 ≡ amount_rows 1 d.total
  pub tasks : Knows seen old → AreRowsOf (new 3) (Has d.tasks)
  pub is_head : IsHead d
  pub put : AllByRecursion IsPut d.tasks
  pub runs : new 1 ≡ old 1
