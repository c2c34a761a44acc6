-- What an opened store keeps of an older form, and what is read of what a store keeps.
use Rattle.std.specs.Prelude.{◌≡◌, ◌≢◌, ◌⊎◌, ◌<◌, ◌^◌, ⊤, ℕ, suc, true, false, List, [], ◌∷◌, Option, Some, None, pos}
use Rattle.std.specs.Str.{IsUtf8}
use Rattle.std.specs.Option.{MatchOption}
use Rattle.sqlite.specs.declared.types.Value.{Value}
use Rattle.sqlite.specs.declared.types.Value.TheVariants.{Int, Text}
use Rattle.sqlite.specs.Order.{Row, column}
use Rattle.sqlite.specs.Tree.{Trees}
use Rattle.sqlite.specs.Schema.{Schema}
use Rattle.sqlite.specs.Effect.{Database}
use Rattle.sqlite.specs.State.{State}
use Rattle.sqlite_catalog.specs.Listing.{IsSound}
use Rattle.sqlite_rules.specs.Lists.{Has}
use Rattle.messages.specs.declared.record.RecordedTask.{RecordedTask}
use Rattle.messages.specs.declared.record.RecordParts.{RecordParts}
use Rattle.event_json.specs.Written.{IsWritten}
use Rattle.agent_core.specs.Records.{is_record}
use Rattle.keep_tables.specs.Tables.{AddsTotals, AreLone, IsCommitted, IsLone, first_schema, second_schema, keeper_schema, no_schema}
use Rattle.keep_store.specs.SavesKept.{Kept, body_in, kept_in, last_in, read_back, whole, with_last, IsRowOf}

-- the value of the row of a table of an id and a value
abbrev pub value_in : List Row → Option Value
value_in [] = None
value_in (row ∷ more) = Some (column row 2)

-- what a database keeps of the tables but agent_total, which has a total in its head
abbrev pub second_kept : Trees → Kept
second_kept db = record { body = body_in (db 0) (db 2) (db 3) []; last = last_in (db 1) }

-- what a database of the two tables agent_record and run_number keeps
abbrev pub first_kept : Trees → Kept
first_kept db = record { body = value_in (db 0); last = last_in (db 1) }

-- no record, and no run assigned
abbrev pub nothing : Kept
nothing = record { body = None; last = 0 }

-- what a database of a known layout keeps
abbrev pub Keeps : Schema → Trees → Kept → Type 0
Keeps schema db kept =
    ((schema ≡ no_schema) × (kept ≡ nothing))
    ⊎ (((schema ≡ first_schema) × IsLone (db 0) × IsLone (db 1) × (kept ≡ first_kept db))
    ⊎ (((schema ≡ second_schema) × AreLone db × (kept ≡ second_kept db))
    ⊎ ((schema ≡ keeper_schema) × AreLone db × (kept ≡ kept_in db))))

-- the trees list tables, and the database that they are is such a one
abbrev pub ReadsAs : Trees → (Database → Type 0) → Type 0
ReadsAs db Is = (schema : Schema) × IsSound schema db × Is (record { schema = schema; trees = db })

-- what a database keeps that is of a known layout, these trees keep too, in a known layout
abbrev pub StillKeeps : Database → Trees → Type 0
StillKeeps old db =
    (kept : Kept) → Keeps old.schema old.trees kept → ReadsAs db (λ d. Keeps d.schema d.trees kept)

-- with one run more assigned
abbrev pub with_run : Kept → Kept
with_run kept = with_last (suc kept.last) kept

-- what is kept is this text
abbrev pub HoldsText : Option Value → List ℕ → Type 0
HoldsText body text = body ≡ Some (Text text)

-- the text is the written form of a record that an agent can have
abbrev pub IsRecordText : RecordParts → List ℕ → Type 0
IsRecordText d text = IsWritten d text × (is_record d ≡ true)

-- no record where nothing is kept, and else the record whose written form is
abbrev pub IsLoaded : Option Value → Option RecordParts → Type 0
IsLoaded body found =
    MatchOption found (body ≡ None) (λ d. (text : List ℕ) × HoldsText body text
    × IsRecordText d text)

-- something is kept, and no UTF-8 text (RFC 3629) that is a record's
abbrev pub IsDamaged : Option Value → Type 0
IsDamaged body =
    (body ≢ None) × ((d : RecordParts) (text : List ℕ) → HoldsText body text → IsUtf8 text
    → IsRecordText d text → ⊥)

-- what is in the row of the table run_number, if there is one
abbrev pub run_in : Trees → Option Value
run_in db = value_in (db 1)

-- the last run in a row, 0 where there is no row
abbrev pub HoldsRun : Option Value → ℕ → Type 0
HoldsRun None n = n ≡ 0
HoldsRun (Some value) n = value ≡ Int (pos n)

-- there is a row, and in it no whole number from 0 to 4,294,967,295
abbrev pub HoldsNoRun : Option Value → Type 0
HoldsNoRun held = (n : ℕ) → n < 2 ^ 32 → HoldsRun held n → ⊥

abbrev pub shown_body : List Row → Option Value
shown_body [] = None
shown_body (row ∷ more) = Some (column row 0)

abbrev pub shown_last : List Row → ℕ
shown_last [] = 0
shown_last (row ∷ more) = whole (column row 0)

-- each row is read as the task at its place in the list
abbrev pub AreTasksOf : List Row → List RecordedTask → Type 0
AreTasksOf [] [] = ⊤
AreTasksOf [] (task ∷ tasks) = ⊥
AreTasksOf (row ∷ rows) [] = ⊥
AreTasksOf (row ∷ rows) (task ∷ tasks) = (read_back row ≡ Some task) × AreTasksOf rows tasks

-- some row can't be read as a task
abbrev pub SomeUnreadable : List Row → Type 0
SomeUnreadable rows = (row : Row) × Has rows row × (read_back row ≡ None)

-- a row is at the place of the task that it is read as
abbrev pub IsPlaced : Row → Type 0
IsPlaced row = (task : RecordedTask) → read_back row ≡ Some task → IsRowOf row task

-- ---- for private clauses: the tables that lack are made

-- where the tables are those before and no transaction is open, one was committed that left those
-- after; else the database is as it was
abbrev pub MakesIf : Schema → Schema → (Trees → Trees → Type 0) → State → State → Type 0
MakesIf before after Adds old new =
    ((old.now.schema ≡ before) × IsCommitted after Adds old new)
    ⊎ ((old.in_transaction ≡ false → old.now.schema ≢ before) × (new.now ≡ old.now)
    × (new.in_transaction ≡ old.in_transaction))

-- what a stop leaves of the transaction
abbrev pub LeavesIf : Schema → Schema → (Trees → Trees → Type 0) → Database → Trees → Type 0
LeavesIf before after Adds old db =
    (old.schema ≡ before) × IsSound after db × Adds old.trees db

-- no table has a row
pub record HasNothing (db : Trees) : Type 0 where
  pub records : db 0 ≡ []
  pub runs : db 1 ≡ []
  pub heads : db 2 ≡ []
  pub tasks : db 3 ≡ []
  pub totals : db 5 ≡ []

-- the tables of heads, of tasks and of totals are new beside those of records and runs
pub record AddsRows (old new : Trees) : Type 0 where
  pub records : new 0 ≡ old 0
  pub runs : new 1 ≡ old 1
  pub heads : new 2 ≡ []
  pub tasks : new 3 ≡ []
  pub totals : new 5 ≡ []

-- the tables lack none, or aren't a keeper's
abbrev pub LacksNone : Schema → Type 0
LacksNone schema = (schema ≢ no_schema) × (schema ≢ first_schema) × (schema ≢ second_schema)

-- the tables are there that lacked, or none lacked or a transaction was open,
-- and then the database is as it was
abbrev pub Completes : State → State → Type 0
Completes old new =
    ((old.now.schema ≡ no_schema) × (new.now.schema ≡ keeper_schema) × HasNothing new.now.trees)
    ⊎ (((old.now.schema ≡ first_schema) × (new.now.schema ≡ keeper_schema)
    × AddsRows old.now.trees new.now.trees)
    ⊎ (((old.now.schema ≡ second_schema) × (new.now.schema ≡ keeper_schema)
    × AddsTotals old.now.trees new.now.trees)
    ⊎ ((old.in_transaction ≡ false → LacksNone old.now.schema) × (new.now ≡ old.now))))
