-- What is kept where a run was given out.
use Rattle.std.proofs.Common.{◌≡◌, inl, inr, ℕ, pos, refl, sym, ap, subst, ◌∙◌}
use Rattle.sqlite.specs.declared.types.Value.TheVariants.{Int}
use Rattle.sqlite.specs.Effect.{Database}
use Rattle.sqlite.specs.Tree.{Trees}
use Rattle.sqlite.specs.State.{State, Survives}
use Rattle.keep_tables.specs.Tables.{IsLone, IsReady, Replaced, Wrote}
use Rattle.keep_store.specs.SavesKept.{kept_in, with_last}
use Rattle.keep_store.specs.Stops.{LeavesEither}

pub run_kept : (n : ℕ) (old new : Trees) → Replaced 1 (Int (pos n)) old new → kept_in new ≡ with_last n (kept_in old)
run_kept n old new h = rw (
  h.row,
  h.rest 0 (λ e. cc) ((λ e. cc), (λ e. cc)),
  h.rest 2 (λ e. cc) ((λ e. cc), (λ e. cc)),
  h.rest 3 (λ e. cc) ((λ e. cc), (λ e. cc)),
  h.rest 5 (λ e. cc) ((λ e. cc), (λ e. cc)),
) refl

pub run_ready : (n : ℕ) (old new : State) → IsReady old → Wrote 1 (Int (pos n)) old new → IsReady new
run_ready n old new ready h = record {
  is_open = h.is_open;
  ours = record {
    schema = h.schema;
    one_record = subst IsLone (sym (h.changed.rest 0 (λ e. cc) ((λ e. cc), (λ e. cc)))) ready.ours.one_record;
    one_run = subst IsLone (sym h.changed.row) refl;
    one_head = subst IsLone (sym (h.changed.rest 2 (λ e. cc) ((λ e. cc), (λ e. cc)))) ready.ours.one_head;
  };
  committed = h.committed;
  mode = h.mode;
}

pub run_stop : (n : ℕ) (old new : State) → IsReady old → ((db : Trees) → old.may_leave db → db ≡ old.committed.trees) → Survives old new (Replaced 1 (Int (pos n)) old.now.trees) → LeavesEither old new (with_last n)
run_stop n old new ready settled survives = λ clean db left. elim (survives.crash clean db left) [
  | inl was ↦ inl (ap kept_in (settled db was ∙ ap (λ (it : Database). it.trees) ready.committed))
  | inr made ↦ inr (run_kept n old.now.trees db made)
]
