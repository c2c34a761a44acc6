-- What the statements do that make the tables in a store that lacks them.
use Rattle.std.proofs.Common.{◌≡◌, ◌≢◌, ℕ, List, [], ◌∷◌, length, true, false, Ok, Err, Result, IsTrue, OnOk, codes, refl, sym, ap, subst, ◌∙◌}
use Rattle.std.specs.Fmt.{digits}
use Rattle.sqlite.specs.Schema.{Schema}
use Rattle.sqlite.specs.Table.{Table}
use Rattle.sqlite.specs.Command.TheVariants.{CreateTable}
use Rattle.sqlite.specs.Compile.{table_defined_by}
use Rattle.sqlite.specs.Change.{created, next_tree}
use Rattle.sqlite_catalog.specs.Change.{KeepsRows}
use Rattle.sqlite.specs.Tree.{Trees}
use Rattle.sqlite_catalog.specs.Listing.{IsSound}
use Rattle.sqlite.specs.Effect.{Database, IsDatabase}
use Rattle.sqlite.specs.declared.error.Error.{Error}
use Rattle.sqlite.specs.Does.{Tally, lacks_sequence}
use Rattle.sqlite.specs.Listing.{understood}
use Rattle.sqlite.specs.State.{State, ExecutesInside, KeepsCounts, Shows, Survives}
use Rattle.sqlite.proofs.StateLemmas.{survives_then}
use Rattle.sqlite.proofs.Callers.{IsPlain, command_of, statement_of, runs_as}
use Rattle.sqlite_tied.specs.Compute.{everything}
use Rattle.keep_tables.specs.Tables.{AddsFirst, AddsTables, AddsTotals, IsCommitted, keeper_schema, second_schema, first_schema, no_schema, record_table, run_table, head_table, task_table, total_table}
use Rattle.keep_tables.proofs.RowLemmas.{went, same_value}

-- the schema between the first two statements
abbrev pub record_schema : Schema
record_schema = record { tables = record_table ∷ []; indexes = []; views = [] }

abbrev pub make_record_text : List ℕ
make_record_text = codes "CREATE TABLE agent_record (id INTEGER PRIMARY KEY CHECK (id = 1), body TEXT NOT NULL)"

pub make_record_is : command_of (understood no_schema make_record_text) ≡ CreateTable
unfolding understood everything
make_record_is = refl

pub make_record_plain : IsPlain (understood no_schema make_record_text)
unfolding understood everything
make_record_plain = (refl, refl)

make_record_defined : table_defined_by (statement_of make_record_text (understood no_schema make_record_text)) ≡ Ok (record record_table { tree = 0 })
unfolding understood everything
make_record_defined = refl

abbrev pub make_run_text : List ℕ
make_run_text = codes "CREATE TABLE run_number (id INTEGER PRIMARY KEY CHECK (id = 1), last INTEGER NOT NULL)"

pub make_run_is : command_of (understood record_schema make_run_text) ≡ CreateTable
unfolding understood everything
make_run_is = refl

pub make_run_plain : IsPlain (understood record_schema make_run_text)
unfolding understood everything
make_run_plain = (refl, refl)

make_run_defined : table_defined_by (statement_of make_run_text (understood record_schema make_run_text)) ≡ Ok (record run_table { tree = 0 })
unfolding understood everything
make_run_defined = refl

-- the schema between the statements for heads and for tasks
abbrev pub head_schema : Schema
head_schema = record { tables = record_table ∷ run_table ∷ head_table ∷ []; indexes = []; views = [] }

abbrev pub make_head_text : List ℕ
make_head_text = codes "CREATE TABLE agent_head (id INTEGER PRIMARY KEY CHECK (id = 1), name TEXT NOT NULL, run INTEGER NOT NULL, session INTEGER NOT NULL, total TEXT NOT NULL, version INTEGER NOT NULL)"

pub make_head_is : command_of (understood first_schema make_head_text) ≡ CreateTable
unfolding understood everything
make_head_is = refl

pub make_head_plain : IsPlain (understood first_schema make_head_text)
unfolding understood everything
make_head_plain = (refl, refl)

make_head_defined : table_defined_by (statement_of make_head_text (understood first_schema make_head_text)) ≡ Ok (record head_table { tree = 0 })
unfolding understood everything
make_head_defined = refl

abbrev pub make_task_text : List ℕ
make_task_text = codes "CREATE TABLE agent_task (run INTEGER NOT NULL, n INTEGER NOT NULL, body TEXT NOT NULL, PRIMARY KEY (run, n))"

pub make_task_is : command_of (understood head_schema make_task_text) ≡ CreateTable
unfolding understood everything
make_task_is = refl

pub make_task_plain : IsPlain (understood head_schema make_task_text)
unfolding understood everything
make_task_plain = (refl, refl)

make_task_defined : table_defined_by (statement_of make_task_text (understood head_schema make_task_text)) ≡ Ok (record task_table { tree = 0 })
unfolding understood everything
make_task_defined = refl

-- the index for the key has a number in its name
with_task : created head_schema (record task_table { tree = 0 }) ≡ second_schema
unfolding digits
with_task = refl

abbrev pub make_total_text : List ℕ
make_total_text = codes "CREATE TABLE agent_total (name TEXT PRIMARY KEY, amount INTEGER NOT NULL)"

pub make_total_is : command_of (understood second_schema make_total_text) ≡ CreateTable
unfolding understood everything
make_total_is = refl

pub make_total_plain : IsPlain (understood second_schema make_total_text)
unfolding understood everything
make_total_plain = (refl, refl)

make_total_defined : table_defined_by (statement_of make_total_text (understood second_schema make_total_text)) ≡ Ok (record total_table { tree = 0 })
unfolding understood everything
make_total_defined = refl

with_total : created second_schema (record total_table { tree = 0 }) ≡ keeper_schema
unfolding digits
with_total = refl

-- what a statement that makes a table did inside a transaction
pub record Creates (before after : Schema) (old new : State) : Type 0 where
  pub is_open : IsTrue new.is_open
  pub schema : new.now.schema ≡ after
  pub mode : new.in_transaction ≡ true
  pub committed : new.committed ≡ old.committed
  pub empty : new.now.trees (next_tree before) ≡ []
  pub others : KeepsRows before.tables old.now.trees new.now.trees
  pub sound : IsDatabase new.now

module _ (before after : Schema) (sql : List ℕ) (draft : Table) (is : command_of (understood before sql) ≡ CreateTable) (plain : IsPlain (understood before sql))
    (defined : table_defined_by (statement_of sql (understood before sql)) ≡ Ok draft) (adds : created before draft ≡ after) (uncounted : lacks_sequence after ≡ false) where
  pub creates : (old new : State) (count : ℕ) → old.now.schema ≡ before → ExecutesInside 0 sql [] old new (Ok count) → Creates before after old new
  creates old new count has h =
      let ran = runs_as sql [] old new before has CreateTable is plain count h.0 in
      let all = went ran.changed in
      let first = went all.1 in
      let made = first.1 in
      let same : made.table ≡ draft = same_value (sym made.defined ∙ defined) in
      let schema : first.0.schema ≡ after = made.is ∙ ap (λ s. created s made.table) has ∙ ap (created before) same ∙ adds in
      let counts : lacks_sequence first.0.schema ≡ false = ap lacks_sequence schema ∙ uncounted in
      let now : new.now ≡ first.0 = ap (λ (p : Tally × Database). p.1) (same_value all.2) ∙ same_value (rw counts at first.2) in
      record {
        is_open = h.1.is_open;
        schema = ap (λ (d : Database). d.schema) now ∙ schema;
        mode = h.1.mode;
        committed = h.1.committed_is;
        empty = ap (λ (d : Database). d.trees (next_tree before)) now ∙ subst (λ s. first.0.trees (next_tree s) ≡ []) has made.empty;
        others = subst (λ (d : Database). KeepsRows before.tables old.now.trees d.trees) (sym now) (subst (λ (s : Schema). KeepsRows s.tables old.now.trees first.0.trees) has made.others);
        sound = ran.sound;
      }

pub creates_record : (old new : State) (count : ℕ) → old.now.schema ≡ no_schema → ExecutesInside 0 make_record_text [] old new (Ok count) → Creates no_schema record_schema old new
creates_record = creates no_schema record_schema make_record_text (record record_table { tree = 0 }) make_record_is make_record_plain make_record_defined refl refl

pub creates_run : (old new : State) (count : ℕ) → old.now.schema ≡ record_schema → ExecutesInside 0 make_run_text [] old new (Ok count) → Creates record_schema first_schema old new
creates_run = creates record_schema first_schema make_run_text (record run_table { tree = 0 }) make_run_is make_run_plain make_run_defined refl refl

-- what the trees are that a transaction left so
abbrev pub Leaves : Schema → (Trees → Trees → Type 0) → Trees → Trees → Type 0
Leaves after Adds old db = IsSound after db × Adds old db

sound_in : (after : Schema) (end : State) (db : Trees) → end.now.schema ≡ after → IsDatabase end.now → db ≡ end.now.trees → IsSound after db
sound_in after end db has sound is = subst (λ all. IsSound after all) (sym is) (subst (λ s. IsSound s end.now.trees) has sound)

pub first_left : (old begun mid end : State) (db : Trees) → Creates no_schema record_schema begun mid → Creates record_schema first_schema mid end → db ≡ end.now.trees → Leaves first_schema AddsFirst old.now.trees db
first_left old begun mid end db p q is =
    let at = λ (t : ℕ). ap (λ (all : Trees). all t) is in
    (sound_in first_schema end db q.schema q.sound is, record { records = at 0 ∙ q.others.0 ∙ p.empty; runs = at 1 ∙ q.empty })

pub tables_left : (old begun mid end : State) (db : Trees) → begun.now ≡ old.now → Creates first_schema head_schema begun mid → Creates head_schema second_schema mid end → db ≡ end.now.trees → Leaves second_schema AddsTables old.now.trees db
tables_left old begun mid end db same p q is =
    let at = λ (t : ℕ). ap (λ (all : Trees). all t) is in
    let was = λ (t : ℕ). ap (λ (d : Database). d.trees t) same in (
      sound_in second_schema end db q.schema q.sound is,
      record {
        records = at 0 ∙ q.others.0 ∙ p.others.0 ∙ was 0;
        runs = at 1 ∙ q.others.1.0 ∙ p.others.1.0 ∙ was 1;
        heads = at 2 ∙ q.others.1.1.0 ∙ p.empty;
        tasks = at 3 ∙ q.empty;
      },
    )

pub total_left : (old begun end : State) (db : Trees) → begun.now ≡ old.now → Creates second_schema keeper_schema begun end → db ≡ end.now.trees → Leaves keeper_schema AddsTotals old.now.trees db
total_left old begun end db same p is =
    let at = λ (t : ℕ). ap (λ (all : Trees). all t) is in
    let was = λ (t : ℕ). ap (λ (d : Database). d.trees t) same in (
      sound_in keeper_schema end db p.schema p.sound is,
      record {
        records = at 0 ∙ p.others.0 ∙ was 0;
        runs = at 1 ∙ p.others.1.0 ∙ was 1;
        heads = at 2 ∙ p.others.1.1.0 ∙ was 2;
        tasks = at 3 ∙ p.others.1.1.1.0 ∙ was 3;
        totals = at 5 ∙ p.empty;
      },
    )

pub first_made_if : {X : Type 0} (old begun mid end new : State) (r : Result X Error) → Creates no_schema record_schema begun mid → Creates record_schema first_schema mid end
    → OnOk r (IsTrue end.in_transaction × Shows end new end.now end.now false × KeepsCounts end new × (new.marks ≡ [])) → OnOk r (IsCommitted first_schema AddsFirst old new)
first_made_if old begun mid end new (Ok x) p q done =
    let s = done.1 in
    record {
      is_open = s.is_open;
      tables = ap (λ (d : Database). d.schema) s.now_is ∙ q.schema;
      committed = s.committed_is ∙ sym s.now_is;
      mode = s.mode;
      changes = (first_left old begun mid end new.now.trees p q (ap (λ (d : Database). d.trees) s.now_is)).1;
    }
first_made_if old begun mid end new (Err e) p q done = tt

-- what two calls that committed nothing leave
pub quiet_twice : (a b c : State) (R : Trees → Type 0) → Survives a b (λ _. ⊥) → Survives b c (λ _. ⊥) → Survives a c R
quiet_twice a b c R one two = survives_then a b c _ _ R (λ _ db none. absurd none) (λ _ db none. absurd none) one two

pub creates_head : (old new : State) (count : ℕ) → old.now.schema ≡ first_schema → ExecutesInside 0 make_head_text [] old new (Ok count) → Creates first_schema head_schema old new
creates_head = creates first_schema head_schema make_head_text (record head_table { tree = 0 }) make_head_is make_head_plain make_head_defined refl refl

pub creates_task : (old new : State) (count : ℕ) → old.now.schema ≡ head_schema → ExecutesInside 0 make_task_text [] old new (Ok count) → Creates head_schema second_schema old new
creates_task = creates head_schema second_schema make_task_text (record task_table { tree = 0 }) make_task_is make_task_plain make_task_defined with_task refl

-- both, and then the commit
tables_made : (old begun mid end new : State) → begun.now ≡ old.now → Creates first_schema head_schema begun mid → Creates head_schema second_schema mid end → Shows end new end.now end.now false → IsCommitted second_schema AddsTables old new
tables_made old begun mid end new same p q s = record {
  is_open = s.is_open;
  tables = ap (λ (d : Database). d.schema) s.now_is ∙ q.schema;
  committed = s.committed_is ∙ sym s.now_is;
  mode = s.mode;
  changes = (tables_left old begun mid end new.now.trees same p q (ap (λ (d : Database). d.trees) s.now_is)).1;
}

pub made_if : {X : Type 0} (old begun mid end new : State) (r : Result X Error) → begun.now ≡ old.now → Creates first_schema head_schema begun mid → Creates head_schema second_schema mid end
    → OnOk r (IsTrue end.in_transaction × Shows end new end.now end.now false × KeepsCounts end new × (new.marks ≡ [])) → OnOk r (IsCommitted second_schema AddsTables old new)
made_if old begun mid end new (Ok x) same p q done = tables_made old begun mid end new same p q done.1
made_if old begun mid end new (Err e) same p q done = tt

pub creates_total : (old new : State) (count : ℕ) → old.now.schema ≡ second_schema → ExecutesInside 0 make_total_text [] old new (Ok count) → Creates second_schema keeper_schema old new
creates_total = creates second_schema keeper_schema make_total_text (record total_table { tree = 0 }) make_total_is make_total_plain make_total_defined with_total refl

total_made : (old begun end new : State) → begun.now ≡ old.now → Creates second_schema keeper_schema begun end → Shows end new end.now end.now false → IsCommitted keeper_schema AddsTotals old new
total_made old begun end new same p s = record {
  is_open = s.is_open;
  tables = ap (λ (d : Database). d.schema) s.now_is ∙ p.schema;
  committed = s.committed_is ∙ sym s.now_is;
  mode = s.mode;
  changes = (total_left old begun end new.now.trees same p (ap (λ (d : Database). d.trees) s.now_is)).1;
}

pub total_made_if : {X : Type 0} (old begun end new : State) (r : Result X Error) → begun.now ≡ old.now → Creates second_schema keeper_schema begun end
    → OnOk r (IsTrue end.in_transaction × Shows end new end.now end.now false × KeepsCounts end new × (new.marks ≡ [])) → OnOk r (IsCommitted keeper_schema AddsTotals old new)
total_made_if old begun end new (Ok x) same p done = total_made old begun end new same p done.1
total_made_if old begun end new (Err e) same p done = tt

-- ---- schemas that differ

pub first_is_not_new : first_schema ≢ no_schema
first_is_not_new e = absurd (let n = ap (λ (s : Schema). length s.tables) e in cc)

pub first_is_not_ours : keeper_schema ≢ first_schema
first_is_not_ours e = absurd (let n = ap (λ (s : Schema). length s.tables) e in cc)

pub ours_is_not_new : keeper_schema ≢ no_schema
ours_is_not_new e = absurd (let n = ap (λ (s : Schema). length s.tables) e in cc)

pub second_is_not_new : second_schema ≢ no_schema
second_is_not_new e = absurd (let n = ap (λ (s : Schema). length s.tables) e in cc)

pub second_is_not_first : second_schema ≢ first_schema
second_is_not_first e = absurd (let n = ap (λ (s : Schema). length s.tables) e in cc)

pub second_is_not_ours : keeper_schema ≢ second_schema
second_is_not_ours e = absurd (let n = ap (λ (s : Schema). length s.tables) e in cc)
