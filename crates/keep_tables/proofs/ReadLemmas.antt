-- What the queries show, and what a refusal leaves.
use Rattle.std.proofs.Common.{◌≡◌, inl, inr, ℕ, List, [], ◌∷◌, length, map, false, Ok, Err, Result, IfOk, IfErr, OnOk, OnErr, refl, sym, ap, subst, ◌∙◌, arith}
use Rattle.std.specs.List.Sorted.{IsPermutation}
use Rattle.std.proofs.lemmas.List.Sorted.{length_permutation}
use Rattle.sqlite.specs.Order.{Row}
use Rattle.sqlite.specs.Program.{overlay}
use Rattle.sqlite.specs.Tree.{Trees, rowid}
use Rattle.sqlite.specs.Command.TheVariants.{Select}
use Rattle.sqlite.specs.declared.error.Error.{Error}
use Rattle.sqlite.specs.Clock.{timed}
use Rattle.sqlite.specs.declared.types.Value.TheVariants.{Null}
use Rattle.std.specs.Prelude.{Vec, IsTrue}
use Rattle.std.specs.declared.alloc.Global.{Global}
use Rattle.sqlite.specs.Listing.{understood, reads_listing}
use Rattle.sqlite.specs.State.{State, IsUnchanged, IsRolledBack, Fails, IsNotRun, shows_rows, ExecutesIn, Executes, FailsToQuery, FailsToShow, Shown, ShowsRows, KeepsCommit, IsTooLate}
use Rattle.sqlite.specs.State.{HasCleanDisk, Survives}
use Rattle.sqlite.proofs.StateLemmas.{survives_then}
use Rattle.sqlite.proofs.Callers.{IsPlain, command_of, reads_as, one_permutation}
use Rattle.std.proofs.lemmas.Bool.{cases_Bool}
use Rattle.std.proofs.Common.{◌⊎◌, MatchResult}
use Rattle.sqlite.specs.Effect.{Database}
use Rattle.keep_tables.specs.Tables.{keeper_schema, AreIds, HasNoRow, IsLone, IsReady, IsSame, IsWriting, Stays, WritesOn, values_of}
use Rattle.std.proofs.Common.{true, filter}
use Rattle.sqlite.specs.Term.{Term}
use Rattle.sqlite_value.specs.declared.keys.Key.{Key}
use Rattle.keep_tables.proofs.TextLemmas.{query_of, whole}
use Rattle.keep_tables.proofs.QueryLemmas.{answered, shows}

all_pass : (rows : List Row) → filter (λ row. true) rows ≡ rows
all_pass [] = refl
all_pass (r ∷ rows) = ap (λ all. r ∷ all) (all_pass rows)

-- of at most one row there is one order
pub in_order : (f : Row → Row) (held rows : List Row) → IsLone held → IsPermutation (map f held) rows → rows ≡ map f held
in_order f [] rows one same = none rows (length_permutation [] rows same)
  where
    none : (rows : List Row) → length rows ≡ 0 → rows ≡ []
    none [] e = refl
    none (r ∷ rows) e = absurd (omega (arith, e))
in_order f (r ∷ []) rows one same = one_permutation (f r) rows same
in_order f (r ∷ s ∷ more) rows one same = absurd one

pub unchanged_stays : (old new : State) → IsReady old → IsUnchanged old new → Stays old new
unchanged_stays old new ready h = record {
  ready = λ up. record {
    is_open = up;
    ours = subst (λ d. Rattle.keep_tables.specs.Tables.IsOurs d) (sym h.0.now_is) ready.ours;
    committed = h.0.committed_is ∙ ready.committed ∙ sym h.0.now_is;
    mode = h.0.mode ∙ ready.mode;
  };
  same = λ up. h.0.now_is;
}

pub rolled_stays : (old new : State) → IsReady old → IsRolledBack old new → Stays old new
rolled_stays old new ready h = record {
  ready = λ up. record {
    is_open = up;
    ours = subst (λ d. Rattle.keep_tables.specs.Tables.IsOurs d) (sym ((h.undone up).0 ∙ ready.committed)) ready.ours;
    committed = (h.undone up).1 ∙ sym (h.undone up).0;
    mode = h.autocommit;
  };
  same = λ up. (h.undone up).0 ∙ ready.committed;
}

fails_stays : (old new : State) (big : Type 0) (e : Error) → IsReady old → Fails old new big e → Stays old new
fails_stays old new big e ready h = rolled_stays old new ready h.3

pub not_run_stays : (old new : State) (sql : List ℕ) (params : Row) (e : Error) → IsReady old → IsNotRun old new sql params e → Stays old new
unfolding IsNotRun
not_run_stays old new sql params e ready (inl h) = unchanged_stays old new ready h.1
not_run_stays old new sql params e ready (inr h) = fails_stays old new _ e ready h

pub execute_stays : (old new : State) (sql : List ℕ) (params : Row) (r : Result ℕ Error) → IsReady old → Executes sql params old new r → OnErr r (Stays old new)
unfolding ExecutesIn
execute_stays old new sql params (Ok n) ready h = tt
execute_stays old new sql params (Err e) ready (inl h) = not_run_stays old new sql params e ready h
execute_stays old new sql params (Err e) ready (inr h) = elim (cases_Bool (shows_rows false h.0)) [
  | inl shows ↦ unchanged_stays old new ready (rw shows at h.2).1
  | inr runs ↦ elim (rw runs at h.2) [ inl refused ↦ unchanged_stays old new ready refused.1 | inr failed ↦ fails_stays old new _ e ready failed ]
]

query_stays : (old new : State) (sql : List ℕ) (params : Row) (e : Error) → IsReady old → IsPlain (understood old.now.schema sql) → FailsToQuery sql params old new e → Stays old new
unfolding FailsToQuery
query_stays old new sql params e ready plain (inl h) = not_run_stays old new sql params e ready h
query_stays old new sql params e ready plain (inr h) =
    let none = (subst IsPlain h.1.is plain).0 in
    let it = subst (FailsToShow old new sql h.0 (timed params h.0.formats h.1.now) e) none h.2 in
    unchanged_stays old new ready it.3

shown_stays : (old new : State) (sql : List ℕ) (params : Row) (rows : List Row) → IsPlain (understood old.now.schema sql) → Shown sql params old new rows → IsUnchanged old new
unfolding Shown
shown_stays old new sql params rows plain h =
    let none = (subst IsPlain h.1.is plain).0 in
    (subst (ShowsRows old new sql h.0 (timed params h.0.formats h.1.now) rows) none h.2).3

-- a query of all rows of one table
module _ (sql : List ℕ) (tree : ℕ) (project : List Term) (order : List (Term × Key)) (over : (db : Trees) → overlay db [] tree ≡ db tree) (names : List (List ℕ))
    (is : (command_of (understood keeper_schema sql) ≡ Select (whole (record (query_of tree [] project) { order = order })) names) × (reads_listing keeper_schema sql ≡ false)) (plain : IsPlain (understood keeper_schema sql)) where
  abbrev pub shows_row : Row → Row
  shows_row = shows tree [] project order []

  shown_rows : (old new : State) (rows : List Row) → old.now.schema ≡ keeper_schema → Shown sql [] old new rows → IsPermutation (map shows_row (old.now.trees tree)) rows × IsUnchanged old new
  shown_rows old new rows has ok =
      let got = reads_as sql [] old new keeper_schema has _ is.0 plain is.1 rows ok in
      let same = answered tree [] project order [] old.now.trees rows (over old.now.trees) (got.answer Null) in
      (subst (λ all. IsPermutation (map shows_row all) rows) (all_pass (old.now.trees tree)) same, shown_stays old new sql [] rows (subst (λ s. IsPlain (understood s sql)) (sym has) plain) ok)

  pub reads : (old new : State) (r : Result (Vec Row Global) Error) → IsReady old
      → IfOk r (λ rows. Shown sql [] old new rows.items) → IfErr r (FailsToQuery sql [] old new)
      → IfOk r (λ rows. IsPermutation (map shows_row (old.now.trees tree)) rows.items) × Stays old new × OnOk r (IsTrue new.is_open)
  reads old new (Ok rows) ready ok err =
      let got = shown_rows old new rows.items ready.ours.schema ok in
      (got.0, unchanged_stays old new ready got.1, got.1.0.is_open)
  reads old new (Err e) ready ok err =
      (tt, query_stays old new sql [] e ready (subst (λ s. IsPlain (understood s sql)) (sym ready.ours.schema) plain) err, tt)

  pub reads_lone : (old new : State) (r : Result (Vec Row Global) Error) → IsReady old → IsLone (old.now.trees tree) → IfOk r (λ rows. IsPermutation (map shows_row (old.now.trees tree)) rows.items)
      → IfOk r (λ rows. rows.items ≡ map shows_row (old.now.trees tree))
  reads_lone old new (Ok rows) ready one same = in_order shows_row (old.now.trees tree) rows.items one same
  reads_lone old new (Err e) ready one same = tt

  pub rows_if : (old new : State) (r : Result (Vec Row Global) Error) → old.now.schema ≡ keeper_schema → IfOk r (λ rows. Shown sql [] old new rows.items) → IfOk r (λ rows. IsPermutation (map shows_row (old.now.trees tree)) rows.items)
  rows_if old new (Ok rows) has ok = (shown_rows old new rows.items has ok).0
  rows_if old new (Err e) has ok = tt

  pub unchanged_if : (old new : State) (r : Result (Vec Row Global) Error) → old.now.schema ≡ keeper_schema → IfOk r (λ rows. Shown sql [] old new rows.items) → OnOk r (IsUnchanged old new)
  unchanged_if old new (Ok rows) has ok = (shown_rows old new rows.items has ok).1
  unchanged_if old new (Err e) has ok = tt

-- ---- in a transaction

pub unchanged_keeps : (old new : State) → IsUnchanged old new → KeepsCommit old new
unchanged_keeps old new same = record { was_open = λ _. same.0.was_open; committed = λ _. same.0.committed_is }

rolled_keeps : (old new : State) → IsRolledBack old new → KeepsCommit old new
rolled_keeps old new undone = record { was_open = undone.was_open; committed = λ up. (undone.undone up).1 }

not_run_keeps : (old new : State) (sql : List ℕ) (params : Row) (e : Error) → IsNotRun old new sql params e → KeepsCommit old new
unfolding IsNotRun
not_run_keeps old new sql params e (inl h) = unchanged_keeps old new h.1
not_run_keeps old new sql params e (inr h) = rolled_keeps old new h.3

query_keeps : (old new : State) (sql : List ℕ) (params : Row) (e : Error) → IsPlain (understood old.now.schema sql) → FailsToQuery sql params old new e → KeepsCommit old new
unfolding FailsToQuery
query_keeps old new sql params e plain (inl h) = not_run_keeps old new sql params e h
query_keeps old new sql params e plain (inr h) =
    let none = (subst IsPlain h.1.is plain).0 in
    let it = subst (FailsToShow old new sql h.0 (timed params h.0.formats h.1.now) e) none h.2 in
    unchanged_keeps old new it.3

late_keeps : (old new : State) (sql : List ℕ) (params : Row) (e : Error) → IsTooLate sql params old new e → KeepsCommit old new
late_keeps old new sql params e h = unchanged_keeps old new h.5

module _ (sql : List ℕ) (tree : ℕ) (project : List Term) (order : List (Term × Key)) (over : (db : Trees) → overlay db [] tree ≡ db tree) (names : List (List ℕ))
    (is : (command_of (understood keeper_schema sql) ≡ Select (whole (record (query_of tree [] project) { order = order })) names) × (reads_listing keeper_schema sql ≡ false)) (plain : IsPlain (understood keeper_schema sql)) where
  pub asks : (old new : State) (r : Result (Vec Row Global) Error) → IsWriting old → IfOk r (λ rows. Shown sql [] old new rows.items) → IfErr r (λ e. FailsToQuery sql [] old new e ⊎ IsTooLate sql [] old new e)
      → MatchResult r (λ _. WritesOn IsSame old new) (λ _. KeepsCommit old new)
  asks old new (Ok rows) writing ok err =
      let same = unchanged_if sql tree project order over names is plain old new (Ok rows) writing.schema ok in
      record {
        writing = record { is_open = same.0.is_open; schema = ap (λ (d : Database). d.schema) same.0.now_is ∙ writing.schema; mode = same.0.mode ∙ writing.mode };
        committed = same.0.committed_is;
        changes = ap (λ (d : Database). d.trees) same.0.now_is;
      }
  asks old new (Err e) writing ok (inl h) = query_keeps old new sql [] e (subst (λ s. IsPlain (understood s sql)) (sym writing.schema) plain) h
  asks old new (Err e) writing ok (inr h) = late_keeps old new sql [] e h

pub lone_shown : (held rows : List Row) → AreIds rows held → IsLone rows → IsLone held
lone_shown [] rows same one = tt
lone_shown (r ∷ []) rows same one = subst IsLone (one_permutation (rowid r ∷ []) rows same) one
lone_shown (r ∷ s ∷ more) [] same one = absurd (omega (arith, length_permutation _ _ same))
lone_shown (r ∷ s ∷ more) (x ∷ []) same one = absurd (omega (arith, length_permutation _ _ same))
lone_shown (r ∷ s ∷ more) (x ∷ y ∷ zs) same one = absurd one

-- and of at most one row at most one id is shown
pub lone_ids : (held rows : List Row) → AreIds rows held → IsLone held → IsLone rows
lone_ids [] [] same one = tt
lone_ids [] (x ∷ rows) same one = absurd (omega (arith, length_permutation _ _ same))
lone_ids (r ∷ []) rows same one = subst IsLone (sym (one_permutation (rowid r ∷ []) rows same)) one
lone_ids (r ∷ s ∷ more) rows same one = absurd one

-- where no id is shown, there is no row
pub none_shown : (held rows : List Row) → AreIds rows held → length rows ≡ 0 → held ≡ []
none_shown [] rows same none = refl
none_shown (r ∷ more) rows same none = absurd (omega (arith, none, length_permutation _ _ same))

-- a query behind calls that committed nothing commits nothing
pub then_quiet : (a b c : State) → (HasCleanDisk b → IsReady b) → Survives a b (λ _. ⊥) → Survives b c (λ _. IsReady b → ⊥) → Survives a c (λ _. ⊥)
then_quiet a b c ready one two = survives_then a b c _ _ _ (λ _ db none. none) (λ clean db none. none (ready (omega (arith, two.clean)))) one two

-- what the ids of three tables tell
module _ (old s1 s2 s3 : State) (records runs heads : List Row) (one : IsUnchanged old s1) (two : IsUnchanged s1 s2) (three : IsUnchanged s2 s3)
    (are_records : AreIds records (old.now.trees 0)) (are_runs : AreIds runs (s1.now.trees 1)) (are_heads : AreIds heads (s2.now.trees 2)) where
  same_now : s3.now ≡ old.now
  same_now = three.0.now_is ∙ two.0.now_is ∙ one.0.now_is

  old_runs : AreIds runs (old.now.trees 1)
  old_runs = subst (λ (d : Database). AreIds runs (d.trees 1)) one.0.now_is are_runs

  old_heads : AreIds heads (old.now.trees 2)
  old_heads = subst (λ (d : Database). AreIds heads (d.trees 2)) (two.0.now_is ∙ one.0.now_is) are_heads

  pub checked : old.now.schema ≡ keeper_schema → old.committed ≡ old.now → old.in_transaction ≡ false → IsLone records × IsLone runs × IsLone heads → IsReady s3
  checked has settled mode lone = record {
    is_open = three.0.is_open;
    ours = subst Rattle.keep_tables.specs.Tables.IsOurs (sym same_now) (record {
      schema = has;
      one_record = lone_shown (old.now.trees 0) records are_records lone.0;
      one_run = lone_shown (old.now.trees 1) runs old_runs lone.1;
      one_head = lone_shown (old.now.trees 2) heads old_heads lone.2;
    });
    committed = three.0.committed_is ∙ two.0.committed_is ∙ one.0.committed_is ∙ settled ∙ sym same_now;
    mode = three.0.mode ∙ two.0.mode ∙ one.0.mode ∙ mode;
  }

  pub emptied : (length records ≡ 0) × (length runs ≡ 0) × (length heads ≡ 0) → HasNoRow s3.now.trees
  emptied none = subst (λ (d : Database). HasNoRow d.trees) (sym same_now) (record {
    records = none_shown (old.now.trees 0) records are_records none.0;
    runs = none_shown (old.now.trees 1) runs old_runs none.1;
    heads = none_shown (old.now.trees 2) heads old_heads none.2;
  })
