-- What deletions and insertions of a transaction do to a database of ours.
use Rattle.std.proofs.Common.{◌≡◌, inl, inr, ℕ, ℤ, List, [], ◌∷◌, length, Bool, true, false, Some, None, Ok, Err, Result, refl, sym, ap, subst, ◌∙◌, slice_get, MatchResult, ◌/◌}
use Rattle.sqlite.specs.declared.types.Value.TheVariants.{Null}
use Rattle.sqlite.specs.Order.{Row}
use Rattle.sqlite.specs.Tree.{Trees, put_row}
use Rattle.sqlite.specs.Term.{Term}
use Rattle.sqlite.specs.Table.{Table}
use Rattle.sqlite.specs.Query.{Query, IsAnswer}
use Rattle.sqlite.specs.Program.{overlay}
use Rattle.sqlite.specs.Command.{Command}
use Rattle.sqlite.specs.Command.TheVariants.{Insert, Delete}
use Rattle.sqlite.specs.Source.TheVariants.{Values}
use Rattle.sqlite.specs.Does.{Tally, Does}
use Rattle.sqlite.specs.Effect.{Database, value_rows}
use Rattle.sqlite.specs.Rows.{Written, rowids_for, count_of, stamped}
use Rattle.sqlite.specs.Edit.{edit_of, without_all, put_all, are_fresh}
use Rattle.sqlite.specs.Rowids.TheVariants.{Given, Chosen}
use Rattle.std.specs.Prelude.{MatchBool, if◌then◌else◌}
use Rattle.sqlite.specs.Rowids.{Rowids}
use Rattle.sqlite_rules.specs.Lists.{Has}
use Rattle.sqlite_rules.specs.Calls.{ids_of}
use Rattle.sqlite_schema.specs.declared.schema.Keys.TheVariants.{Enforced}
use Rattle.sqlite.specs.declared.error.Error.{Error}
use Rattle.sqlite.specs.Listing.{understood}
use Rattle.sqlite.specs.State.{State, mode_of, ExecutesInsideIn, KeepsCommit, Runs}
use Rattle.sqlite.proofs.Callers.{IsPlain, command_of, statement_of, runs_as, one_step}
use Rattle.sqlite_rules.proofs.TableLemmas.{put_has, has_put, put_all_keeps}
use Rattle.keep_tables.specs.Tables.{keeper_schema, IsWriting, WritesOn, SparesOthers, Puts}
use Rattle.keep_tables.proofs.RowLemmas.{went, same_value, no_index}
use Rattle.keep_tables.proofs.TextLemmas.{whole}

chosen : (table : Table) (top : ℤ) → table.is_counted ≡ false → rowids_for table top ≡ Chosen
chosen table top uncounted = rw uncounted refl

passed_by : (b c : Bool) (A B : Type 0) → b ≡ false → MatchBool (if b then c else false) A B → B
passed_by true c A B never h = absurd cc
passed_by false c A B is h = h

-- `at` is the place of the table
module _ (at : ℕ) (table : Table) (is_at : slice_get keeper_schema.tables at ≡ Some table) where
  -- the rows that a query names are gone
  pub record Deletes (q : Query) (params : Row) (old new : Trees) : Type 0 where
    pub asked : List Row
    pub answer : IsAnswer q (overlay old []) params asked
    pub left : new table.tree ≡ without_all (old table.tree) (ids_of asked)
    pub others : SparesOthers table.tree old new

  pub deletes : (q : Query) (params : Row) (s : State) (db : Database) (text : List ℕ) (tally : Tally) (after : Database) → db.schema ≡ keeper_schema
      → Does s.step_limit (mode_of s) params db text None (Delete at (whole q)) (Ok (tally, after)) → (after.schema ≡ keeper_schema) × Deletes q params db.trees after.trees
  deletes q params s db text tally after has h =
      let on = rw is_at at (subst (λ schema. Does s.step_limit (mode_of s) params (record db { schema = schema }) text None (Delete at (whole q)) (Ok (tally, after))) has h) in
      let done = went on in
      let now = ap (λ (p : Tally × Database). p.1) (same_value (went (went done.2).2).2) in
      let asked = went done.1 in
      let edit = edit_of db.trees table (ids_of asked.0) Given 0 [] in
      let taken = went asked.2 in
      let step = one_step keeper_schema Enforced db.trees taken.0 edit refl taken.1 in
      let left : done.0.trees ≡ taken.0 = ap (λ (w : Written). w.trees) (same_value taken.2) in
      let trees : after.trees ≡ taken.0 = ap (λ (d : Database). d.trees) now ∙ left in (
        ap (λ (d : Database). d.schema) now,
        record {
          asked = asked.0;
          answer = asked.1.answer Null;
          left = ap (λ (all : Trees). all table.tree) trees ∙ step.rows;
          others = λ t other free. ap (λ (all : Trees). all t) trees ∙ step.others t other (no_index t free);
        },
      )

  -- one row is put in at a rowid that was free
  pub record Inserts (row : Row) (old new : Trees) : Type 0 where
    pub fresh : are_fresh (old table.tree) (row ∷ []) ≡ true
    pub rows : new table.tree ≡ put_row row (old table.tree)
    pub others : SparesOthers table.tree old new

  module _ (terms : List Term) (width : ℕ) (params row : Row) (uncounted : table.is_counted ≡ false) (unstamped : stamped table params ≡ params)
      (news : (db : Trees) → (edit_of db table [] Chosen 0 (value_rows params width (length terms / width) terms)).news ≡ row ∷ []) where
    pub inserts : (s : State) (db : Database) (text : List ℕ) (tally : Tally) (after : Database) → db.schema ≡ keeper_schema
        → Does s.step_limit (mode_of s) params db text None (Insert at (Values terms width)) (Ok (tally, after)) → (after.schema ≡ keeper_schema) × Inserts row db.trees after.trees
    inserts s db text tally after has h =
        let on = rw is_at at (subst (λ schema. Does s.step_limit (mode_of s) params (record db { schema = schema }) text None (Insert at (Values terms width)) (Ok (tally, after))) has h) in
        let done = went on in
        let now = ap (λ (p : Tally × Database). p.1) (same_value (went (went done.2).2).2) in
        let given = went done.1 in
        let counted = went given.2 in
        let put = went counted.2 in
        let next = went put.2 in
        let edit = edit_of db.trees table [] (rowids_for table (count_of counted.0)) 0 given.0 in
        let sources : given.0 ≡ value_rows params width (length terms / width) terms = given.1.1 ∙ ap (λ (p : Row). value_rows p width (length terms / width) terms) unstamped in
        let new : edit.news ≡ row ∷ [] =
        ap (λ (how : Rowids). (edit_of db.trees table [] how 0 given.0).news) (chosen table (count_of counted.0) uncounted)
        ∙ ap (λ (rows : List Row). (edit_of db.trees table [] Chosen 0 rows).news) sources ∙ news db.trees in
        let step = one_step keeper_schema Enforced db.trees put.0 edit refl put.1 in
        let kept : next.0 ≡ put.0 = same_value (passed_by table.is_counted _ _ _ uncounted next.1) in
        let left : done.0.trees ≡ put.0 = ap (λ (w : Written). w.trees) (same_value next.2) ∙ kept in
        let trees : after.trees ≡ put.0 = ap (λ (d : Database). d.trees) now ∙ left in (
          ap (λ (d : Database). d.schema) now,
          record {
            fresh = subst (λ rows. are_fresh (db.trees table.tree) rows ≡ true) new step.fresh;
            rows = ap (λ (all : Trees). all table.tree) trees ∙ step.rows ∙ ap (put_all (db.trees table.tree)) new;
            others = λ t other free. ap (λ (all : Trees). all t) trees ∙ step.others t other (no_index t free);
          },
        )

module _ (sql : List ℕ) (params : Row) (command : Command) (is : command_of (understood keeper_schema sql) ≡ command) (plain : IsPlain (understood keeper_schema sql)) (Changes : Trees → Trees → Type 0) (old new : State)
    (change : (count : ℕ) → Runs old new None command (statement_of sql (understood keeper_schema sql)) params count → (new.now.schema ≡ keeper_schema) × Changes old.now.trees new.now.trees) where
  pub goes : (r : Result ℕ Error) → IsWriting old → ExecutesInsideIn false 0 sql params old new r → MatchResult r (λ _. WritesOn Changes old new) (λ _. KeepsCommit old new)
  goes (Ok count) writing h =
      let done = change count (runs_as sql params old new keeper_schema writing.schema command is plain count h.0) in
      record { writing = record { is_open = h.1.is_open; schema = done.0; mode = h.1.mode }; committed = h.1.committed_is; changes = done.1 }
  goes (Err e) writing (inl (failed, inl same)) = record { was_open = λ _. same.0.was_open; committed = λ _. same.0.committed_is }
  goes (Err e) writing (inl (failed, inr undone)) = record { was_open = undone.was_open; committed = λ up. (undone.undone up).1 }
  goes (Err e) writing (inr refused) = record { was_open = λ _. refused.2.0.was_open; committed = λ _. refused.2.0.committed_is }

-- what is put in at a free rowid is there beside what was
pub puts : (at : ℕ) (table : Table) (is_at : slice_get keeper_schema.tables at ≡ Some table) (row : Row) (old new : Trees) → Inserts at table is_at row old new → Puts table.tree row old new
puts at table is_at row old new h = record {
  had = λ r there. put_has row (old table.tree) r (subst (λ rows. Has rows r) h.rows there);
  kept = λ r was. subst (λ rows. Has rows r) (sym h.rows) (put_all_keeps (row ∷ []) (old table.tree) r h.fresh was);
  there = subst (λ rows. Has rows row) (sym h.rows) (has_put row (old table.tree));
  rows = h.rows;
  first = λ none. h.rows ∙ ap (put_row row) none;
  others = h.others;
}

-- ---- one change behind another

pub then_on : (P Q R : Trees → Trees → Type 0) (a b c : State) → WritesOn P a b → WritesOn Q b c → (P a.now.trees b.now.trees → Q b.now.trees c.now.trees → R a.now.trees c.now.trees) → WritesOn R a c
then_on P Q R a b c p q f = record { writing = q.writing; committed = q.committed ∙ p.committed; changes = f p.changes q.changes }

pub then_err : (P : Trees → Trees → Type 0) (a b c : State) → IsWriting a → WritesOn P a b → KeepsCommit b c → KeepsCommit a c
then_err P a b c writing p k = record { was_open = λ _. writing.is_open; committed = λ up. k.committed up ∙ p.committed }

pub nothing_done : (a : State) → KeepsCommit a a
nothing_done a = record { was_open = λ up. up; committed = λ _. refl }
