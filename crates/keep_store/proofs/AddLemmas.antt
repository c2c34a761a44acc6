-- What is kept while the tables are made that a store lacks, and what is known of them then.
use Rattle.std.proofs.Common.{◌≡◌, ◌≢◌, inl, inr, false, Result, Ok, Err, IfErr, OnOk, refl, sym, ap, subst, ◌∙◌, arith}
use Rattle.sqlite.specs.Tree.{Trees}
use Rattle.sqlite.specs.Schema.{Schema}
use Rattle.sqlite.specs.Effect.{Database}
use Rattle.sqlite.specs.State.{State, HasCleanDisk, Survives}
use Rattle.sqlite.proofs.StateLemmas.{survives_then}
use Rattle.keep_tables.specs.Tables.{AddsFirst, AddsTables, AddsTotals, AreLone, HasKnownTables, IsKnown, IsLone, IsOurs, first_schema, second_schema, keeper_schema, no_schema}
use Rattle.keep_tables.proofs.MakeLemmas.{first_is_not_new, first_is_not_ours, ours_is_not_new, second_is_not_new, second_is_not_first, second_is_not_ours}
use Rattle.keep_store.specs.SavesKept.{Kept, kept_in}
use Rattle.keep_store.specs.Kept.{Completes, Keeps, LacksNone, LeavesIf, MakesIf, StillKeeps, first_kept, nothing, second_kept}
use Rattle.keep_store.proofs.MoveLemmas.{all_fresh, first_fresh, first_moved, first_seconded, second_moved}

-- ---- a call that does nothing, and a Result

pub survives_same : (a : State) (P : Trees → Type 0) → Survives a a P
survives_same a P = record {
  clean = omega arith;
  shield = λ h. h;
  counts = omega arith;
  limit = refl;
  closes = λ clean up. inl up;
  crash = λ clean db may. inl may;
}

pub then : {X Y : Type 0} {P Q : Type 0} (r : Result X Y) → (P → Q) → OnOk r P → OnOk r Q
then (Ok x) f h = f h
then (Err e) f h = tt

pub then_both : {X Y : Type 0} {P Q R : Type 0} (r : Result X Y) → (P → Q → R) → OnOk r P → OnOk r Q → OnOk r R
then_both (Ok x) f p q = f p q
then_both (Err e) f p q = tt

pub never_err : {X Y : Type 0} (r : Result X Y) (e : Y) → (r ≡ Err e → ⊥) → IfErr r (λ it. it ≢ e)
never_err (Ok x) e never = tt
never_err (Err it) e never = λ is. never (ap (λ (one : _). Err one) is)

-- ---- what is kept behind each step

pub new_keeps : (old : Database) (db : Trees) (kept : Kept) → old.schema ≡ no_schema → AddsFirst old.trees db → Keeps old.schema old.trees kept → Keeps first_schema db kept
new_keeps old db kept is h (inl none) = inr (inl (refl, subst IsLone (sym h.records) tt, subst IsLone (sym h.runs) tt, none.1 ∙ sym (first_fresh old.trees db h)))
new_keeps old db kept is h (inr (inl other)) = absurd (first_is_not_new (sym other.0 ∙ is))
new_keeps old db kept is h (inr (inr (inl other))) = absurd (second_is_not_new (sym other.0 ∙ is))
new_keeps old db kept is h (inr (inr (inr other))) = absurd (ours_is_not_new (sym other.0 ∙ is))

pub first_keeps : (old : Database) (db : Trees) (kept : Kept) → old.schema ≡ first_schema → AddsTables old.trees db → Keeps old.schema old.trees kept → Keeps second_schema db kept
first_keeps old db kept is h (inl other) = absurd (first_is_not_new (sym is ∙ other.0))
first_keeps old db kept is h (inr (inl first)) =
    inr (inr (inl (
      refl,
      record { one_record = subst IsLone (sym h.records) first.1; one_run = subst IsLone (sym h.runs) first.2; one_head = subst IsLone (sym h.heads) tt },
      first.3 ∙ sym (first_seconded old.trees db h),
    )))
first_keeps old db kept is h (inr (inr (inl other))) = absurd (second_is_not_first (sym other.0 ∙ is))
first_keeps old db kept is h (inr (inr (inr other))) = absurd (first_is_not_ours (sym other.0 ∙ is))

lone_beside : (old db : Trees) → AddsTotals old db → AreLone old → AreLone db
lone_beside old db h lone = record {
  one_record = subst IsLone (sym h.records) lone.one_record;
  one_run = subst IsLone (sym h.runs) lone.one_run;
  one_head = subst IsLone (sym h.heads) lone.one_head;
}

pub second_keeps : (old : Database) (db : Trees) (kept : Kept) → old.schema ≡ second_schema → AddsTotals old.trees db → Keeps old.schema old.trees kept → Keeps keeper_schema db kept
second_keeps old db kept is h (inl other) = absurd (second_is_not_new (sym is ∙ other.0))
second_keeps old db kept is h (inr (inl other)) = absurd (second_is_not_first (sym is ∙ other.0))
second_keeps old db kept is h (inr (inr (inl second))) = inr (inr (inr (refl, lone_beside old.trees db h second.1, second.2 ∙ sym (second_moved old.trees db h))))
second_keeps old db kept is h (inr (inr (inr other))) = absurd (second_is_not_ours (sym other.0 ∙ is))

-- a step, by what it keeps
module _ (before after : Schema) (Adds : Trees → Trees → Type 0)
    (step : (old : Database) (db : Trees) (kept : Kept) → old.schema ≡ before → Adds old.trees db → Keeps old.schema old.trees kept → Keeps after db kept) where
  pub stop_keeps : (old : Database) (db : Trees) → LeavesIf before after Adds old db → StillKeeps old db
  stop_keeps old db left kept has = (after, left.1, step old db kept left.0 left.2 has)

  pub made_keeps : (old new : State) (kept : Kept) → MakesIf before after Adds old new → Keeps old.now.schema old.now.trees kept → Keeps new.now.schema new.now.trees kept
  made_keeps old new kept (inl made) has = subst (λ s. Keeps s new.now.trees kept) (sym made.1.tables) (step old.now new.now.trees kept made.0 made.1.changes has)
  made_keeps old new kept (inr same) has = subst (λ (d : Database). Keeps d.schema d.trees kept) (sym same.1) has

-- a step behind others, which keep what was kept
pub then_keeps : (a b c : State) (Leaves : Trees → Type 0) → (HasCleanDisk b → (kept : Kept) → Keeps a.now.schema a.now.trees kept → Keeps b.now.schema b.now.trees kept)
    → ((db : Trees) → Leaves db → StillKeeps b.now db) → Survives a b (StillKeeps a.now) → Survives b c Leaves → Survives a c (StillKeeps a.now)
then_keeps a b c Leaves on left one two =
    survives_then a b c _ _ _ (λ _ db same. same) (λ clean db l kept has. left db l kept (on (omega (arith, two.clean)) kept has)) one two

-- ---- all steps

module _ (before after : Schema) (Adds : Trees → Trees → Type 0) where
  pub outside_then : (old new : State) → MakesIf before after Adds old new → old.in_transaction ≡ false → new.in_transaction ≡ false
  outside_then old new (inl made) mode = made.1.mode
  outside_then old new (inr same) mode = same.2 ∙ mode

pub completes : (s0 s1 s2 s3 : State) → MakesIf no_schema first_schema AddsFirst s0 s1 → MakesIf first_schema second_schema AddsTables s1 s2 → MakesIf second_schema keeper_schema AddsTotals s2 s3 → Completes s0 s3
completes s0 s1 s2 s3 (inl a) (inl b) (inl d) =
    inl (
      a.0,
      d.1.tables,
      record {
        records = d.1.changes.records ∙ b.1.changes.records ∙ a.1.changes.records;
        runs = d.1.changes.runs ∙ b.1.changes.runs ∙ a.1.changes.runs;
        heads = d.1.changes.heads ∙ b.1.changes.heads;
        tasks = d.1.changes.tasks ∙ b.1.changes.tasks;
        totals = d.1.changes.totals;
      },
    )
completes s0 s1 s2 s3 (inl a) (inl b) (inr same) = absurd (same.0 b.1.mode b.1.tables)
completes s0 s1 s2 s3 (inl a) (inr same) last = absurd (same.0 a.1.mode a.1.tables)
completes s0 s1 s2 s3 (inr same) (inl b) (inl d) =
    let at = λ (t : _). ap (λ (it : Database). it.trees t) same.1 in
    inr (inl (
      ap (λ (it : Database). it.schema) (sym same.1) ∙ b.0,
      d.1.tables,
      record {
        records = d.1.changes.records ∙ b.1.changes.records ∙ at 0;
        runs = d.1.changes.runs ∙ b.1.changes.runs ∙ at 1;
        heads = d.1.changes.heads ∙ b.1.changes.heads;
        tasks = d.1.changes.tasks ∙ b.1.changes.tasks;
        totals = d.1.changes.totals;
      },
    ))
completes s0 s1 s2 s3 (inr same) (inl b) (inr never) = absurd (never.0 b.1.mode b.1.tables)
completes s0 s1 s2 s3 (inr same) (inr also) (inl d) =
    let now = also.1 ∙ same.1 in
    inr (inr (inl (
      ap (λ (it : Database). it.schema) (sym now) ∙ d.0,
      d.1.tables,
      subst (λ (all : Trees). AddsTotals all s3.now.trees) (ap (λ (it : Database). it.trees) now) d.1.changes,
    )))
completes s0 s1 s2 s3 (inr same) (inr also) (inr too) =
    let now = also.1 ∙ same.1 in
    let lacks : s0.in_transaction ≡ false → LacksNone s0.now.schema =
    λ mode. (
      same.0 mode,
      λ is. also.0 (same.2 ∙ mode) (ap (λ (it : Database). it.schema) same.1 ∙ is),
      λ is. too.0 (also.2 ∙ same.2 ∙ mode) (ap (λ (it : Database). it.schema) now ∙ is),
    ) in
    inr (inr (inr (lacks, too.1 ∙ now)))

-- ---- what is known then, and of the database before

known_first : (d : Database) → IsKnown d → d.schema ≡ first_schema → IsLone (d.trees 0) × IsLone (d.trees 1)
known_first d (inl other) is = absurd (first_is_not_new (sym is ∙ other))
known_first d (inr (inl first)) is = (first.1, first.2)
known_first d (inr (inr (inl other))) is = absurd (second_is_not_first (sym other.0 ∙ is))
known_first d (inr (inr (inr other))) is = absurd (first_is_not_ours (sym other.0 ∙ is))

known_second : (d : Database) → IsKnown d → d.schema ≡ second_schema → AreLone d.trees
known_second d (inl other) is = absurd (second_is_not_new (sym is ∙ other))
known_second d (inr (inl other)) is = absurd (second_is_not_first (sym is ∙ other.0))
known_second d (inr (inr (inl second))) is = second.1
known_second d (inr (inr (inr other))) is = absurd (second_is_not_ours (sym other.0 ∙ is))

known_ours : (d : Database) → LacksNone d.schema → IsKnown d → IsOurs d
known_ours d lacks (inl is) = absurd (lacks.0 is)
known_ours d lacks (inr (inl is)) = absurd (lacks.1 is.0)
known_ours d lacks (inr (inr (inl is))) = absurd (lacks.2 is.0)
known_ours d lacks (inr (inr (inr is))) = record { schema = is.0; one_record = is.1.one_record; one_run = is.1.one_run; one_head = is.1.one_head }

module _ (s0 s1 : State) where
  pub ours_then : Completes s0 s1 → s0.in_transaction ≡ false → IsKnown s0.now → IsOurs s1.now
  ours_then (inl new) mode known = record {
    schema = new.1;
    one_record = subst IsLone (sym new.2.records) tt;
    one_run = subst IsLone (sym new.2.runs) tt;
    one_head = subst IsLone (sym new.2.heads) tt;
  }
  ours_then (inr (inl first)) mode known =
      let lone = known_first s0.now known first.0 in
      record {
        schema = first.1;
        one_record = subst IsLone (sym first.2.records) lone.0;
        one_run = subst IsLone (sym first.2.runs) lone.1;
        one_head = subst IsLone (sym first.2.heads) tt;
      }
  ours_then (inr (inr (inl second))) mode known =
      let lone = lone_beside s0.now.trees s1.now.trees second.2 (known_second s0.now known second.0) in
      record { schema = second.1; one_record = lone.one_record; one_run = lone.one_run; one_head = lone.one_head }
  ours_then (inr (inr (inr same))) mode known = subst IsOurs (sym same.1) (known_ours s0.now (same.0 mode) known)

  pub known_before : Completes s0 s1 → IsOurs s1.now → IsKnown s0.now
  known_before (inl new) ours = inl new.0
  known_before (inr (inl first)) ours = inr (inl (first.0, subst IsLone first.2.records ours.one_record, subst IsLone first.2.runs ours.one_run))
  known_before (inr (inr (inl second))) ours =
      inr (inr (inl (
        second.0,
        record {
          one_record = subst IsLone second.2.records ours.one_record;
          one_run = subst IsLone second.2.runs ours.one_run;
          one_head = subst IsLone second.2.heads ours.one_head;
        },
      )))
  known_before (inr (inr (inr same))) ours =
      let was = subst IsOurs same.1 ours in
      inr (inr (inr (was.schema, record { one_record = was.one_record; one_run = was.one_run; one_head = was.one_head })))

  ours_before : s1.now ≡ s0.now → IsOurs s1.now → s0.now.schema ≡ keeper_schema
  ours_before same ours = ap (λ (d : Database). d.schema) (sym same) ∙ ours.schema

  pub found_then : Completes s0 s1 → s0.now.schema ≢ no_schema → s0.now.schema ≢ first_schema → s0.now.schema ≢ second_schema → s1.now ≡ s0.now
  found_then (inl new) a b c = absurd (a new.0)
  found_then (inr (inl first)) a b c = absurd (b first.0)
  found_then (inr (inr (inl second))) a b c = absurd (c second.0)
  found_then (inr (inr (inr same))) a b c = same.1

  pub fresh_then : Completes s0 s1 → IsOurs s1.now → s0.now.schema ≡ no_schema → kept_in s1.now.trees ≡ nothing
  fresh_then (inl new) ours is = all_fresh s1.now.trees new.2
  fresh_then (inr (inl other)) ours is = absurd (first_is_not_new (sym other.0 ∙ is))
  fresh_then (inr (inr (inl other))) ours is = absurd (second_is_not_new (sym other.0 ∙ is))
  fresh_then (inr (inr (inr same))) ours is = absurd (ours_is_not_new (sym (ours_before same.1 ours) ∙ is))

  pub moved_then : Completes s0 s1 → IsOurs s1.now → s0.now.schema ≡ first_schema → kept_in s1.now.trees ≡ first_kept s0.now.trees
  moved_then (inl other) ours is = absurd (first_is_not_new (sym is ∙ other.0))
  moved_then (inr (inl first)) ours is = first_moved s0.now.trees s1.now.trees first.2
  moved_then (inr (inr (inl other))) ours is = absurd (second_is_not_first (sym other.0 ∙ is))
  moved_then (inr (inr (inr same))) ours is = absurd (first_is_not_ours (sym (ours_before same.1 ours) ∙ is))

  pub rows_then : Completes s0 s1 → IsOurs s1.now → s0.now.schema ≡ second_schema → kept_in s1.now.trees ≡ second_kept s0.now.trees
  rows_then (inl other) ours is = absurd (second_is_not_new (sym is ∙ other.0))
  rows_then (inr (inl other)) ours is = absurd (second_is_not_first (sym is ∙ other.0))
  rows_then (inr (inr (inl second))) ours is = second_moved s0.now.trees s1.now.trees second.2
  rows_then (inr (inr (inr same))) ours is = absurd (second_is_not_ours (sym (ours_before same.1 ours) ∙ is))

-- the tables of a keeper lack none
pub unknown_parts : (schema : Schema) → (HasKnownTables schema → ⊥) → (schema ≢ no_schema) × (schema ≢ first_schema) × (schema ≢ second_schema) × (schema ≢ keeper_schema)
unknown_parts schema unknown = (λ is. unknown (inl is), λ is. unknown (inr (inl is)), λ is. unknown (inr (inr (inl is))), λ is. unknown (inr (inr (inr is))))
