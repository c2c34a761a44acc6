-- What the statements that write one row do to a database of ours.
use Rattle.std.proofs.Common.{◌≡◌, ◌⊎◌, inl, inr, ℕ, pos, List, [], ◌∷◌, false, Some, None, Ok, Err, Result, OnOk, slice_get, append-nil, refl, sym, ap, subst, ◌∙◌}
use Rattle.sqlite.specs.declared.types.Value.{Value}
use Rattle.sqlite.specs.declared.types.Value.TheVariants.{Int}
use Rattle.sqlite.specs.Order.{Row}
use Rattle.sqlite.specs.Tree.{Trees, rowid}
use Rattle.sqlite.specs.Ops.{is_null}
use Rattle.sqlite.specs.Kind.{Kind}
use Rattle.sqlite.specs.Command.{Command}
use Rattle.sqlite.specs.Command.TheVariants.{InsertOr}
use Rattle.sqlite.specs.Source.TheVariants.{Values}
use Rattle.sqlite.specs.Cast.{cast}
use Rattle.sqlite.specs.Does.{Tally, Does}
use Rattle.sqlite.specs.Effect.{Database}
use Rattle.sqlite.specs.declared.error.Error.{Error}
use Rattle.sqlite.specs.Listing.{understood}
use Rattle.sqlite.specs.State.{State, mode_of, Executes, CommitsBy, text_of}
use Rattle.sqlite.proofs.Callers.{IsPlain, command_of, statement_of, runs_as}
use Rattle.sqlite_schema.specs.declared.command.Conflict.TheVariants.{Replace}
use Rattle.keep_tables.specs.Tables.{keeper_schema, IsLone, Replaced, Wrote}
use Rattle.keep_tables.proofs.TextLemmas.{terms}
use Rattle.keep_tables.proofs.RowLemmas.{table_of, went, same_value, replaces}

lone_of : (rows : List Row) → IsLone rows → (rows ≡ []) ⊎ ((r : Row) × (rows ≡ r ∷ []) × (rowid r ≡ Int (pos 1)))
lone_of [] one = inl refl
lone_of (r ∷ []) one = inr (r, refl, one)
lone_of (r ∷ s ∷ more) one = absurd one

-- `at` is the place and the tree of the table
module _ (name : List ℕ) (at : ℕ) (column : List ℕ) (kind : Kind) (is_at : slice_get keeper_schema.tables at ≡ Some (table_of name at column kind))
    (value : Value) (fits : cast kind value ≡ value) (present : is_null value ≡ false) where
  abbrev command : Command
  command = InsertOr at Replace (Values terms 3) []

  replaced : (s : State) (db : Database) (text : List ℕ) (tally : Tally) (after : Database) → db.schema ≡ keeper_schema → IsLone (db.trees at)
      → Does s.step_limit (mode_of s) (value ∷ []) db text None command (Ok (tally, after)) → (after.schema ≡ keeper_schema) × Replaced at value db.trees after.trees
  replaced s db text tally after has one h =
      let on = rw is_at at (subst (λ schema. Does s.step_limit (mode_of s) (value ∷ []) (record db { schema = schema }) text None command (Ok (tally, after))) has h) in
      let done = went on in
      let now = ap (λ (p : Tally × Database). p.1) (same_value (went (went done.2).2).2) in
      let rows = replaces name at column kind value fits present s.step_limit db.trees done.0 (lone_of (db.trees at) one) done.1 in
      (ap (λ (d : Database). d.schema) now, record { row = ap (λ (d : Database). d.trees at) now ∙ rows.0; rest = λ t other free. ap (λ (d : Database). d.trees t) now ∙ rows.1 t other free })

  module _ (sql : List ℕ) (is : command_of (understood keeper_schema sql) ≡ command) (plain : IsPlain (understood keeper_schema sql)) where
    pub wrote : (old new : State) (count : ℕ) → old.now.schema ≡ keeper_schema → IsLone (old.now.trees at) → old.in_transaction ≡ false → Executes sql (value ∷ []) old new (Ok count) → Wrote at value old new
    wrote old new count has one outside h =
        let w = runs_as sql (value ∷ []) old new keeper_schema has command is plain count h in
        let all = replaced old old.now (statement_of sql (understood keeper_schema sql)) w.tally new.now has one w.changed in
        record { is_open = w.shown.is_open; schema = all.0; changed = all.1; committed = rw outside at w.shown.committed_is; mode = w.shown.mode ∙ outside }

    pub may_leave : (old : State) (db : Trees) → old.now.schema ≡ keeper_schema → IsLone (old.now.trees at) → CommitsBy sql (value ∷ []) old db → Replaced at value old.now.trees db
    unfolding CommitsBy
    may_leave old db has one h =
        let known = sym h.1.is ∙ ap (λ s. understood s sql) has in
        let bare = subst IsPlain (sym known) plain in
        let same : h.0.command ≡ command = ap command_of known ∙ is in
        let it = rw (bare.0, bare.1, append-nil (value ∷ []), same) at h.2 in
        elim it [
          | inl ends ↦ elim ends.0 [ inl e ↦ absurd cc | inr r ↦ absurd (let e = r.2 in cc) ]
          | inr writes ↦ subst (λ trees. Replaced at value old.now.trees trees) (sym writes.5) (replaced old old.now (text_of sql h.0) writes.1 writes.2 has one writes.3).1
        ]

    pub wrote_if : (old new : State) (r : Result ℕ Error) → old.now.schema ≡ keeper_schema → IsLone (old.now.trees at) → old.in_transaction ≡ false → Executes sql (value ∷ []) old new r → OnOk r (Wrote at value old new)
    wrote_if old new (Ok count) has one outside h = wrote old new count has one outside h
    wrote_if old new (Err e) has one outside h = tt
