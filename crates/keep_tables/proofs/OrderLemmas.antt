-- In which order a query answers that has an ORDER BY.
use Rattle.std.proofs.Common.{◌≡◌, ◌<◌, ◌+◌, inl, inr, ℕ, zero, suc, List, [], ◌∷◌, length, get_or, IfOk, Ok, Err, Result, refl, sym, ap, subst, ◌∙◌, arith, IsSorted}
use Rattle.std.specs.declared.cmp.Ordering.{Ordering}
use Rattle.std.specs.Ordering.{is_lt}
use Rattle.std.specs.Prelude.{Vec}
use Rattle.std.specs.declared.alloc.Global.{Global}
use Rattle.std.proofs.lemmas.List.{length-map, get_or-map}
use Rattle.sqlite.specs.declared.types.Value.TheVariants.{Null}
use Rattle.sqlite.specs.declared.error.Error.{Error}
use Rattle.sqlite.specs.Order.{Row}
use Rattle.sqlite.specs.Tree.{Trees}
use Rattle.sqlite.specs.Term.{Term, Env, eval_all}
use Rattle.sqlite.specs.Query.{Query, IsAnswer, Output, output}
use Rattle.sqlite_sql.specs.Query.{output_cmp}
use Rattle.sqlite.specs.Program.{overlay}
use Rattle.sqlite.specs.State.{State, Shown}
use Rattle.sqlite.proofs.Callers.{reads_as}
use Rattle.sqlite_value.specs.declared.keys.Key.{Key}
use Rattle.sqlite_rules.specs.Lists.{Has}
use Rattle.sqlite_rules.proofs.ProbeLemmas.{has_mapped}
use Rattle.keep_tables.specs.Tables.{AreByKey, key_order, keeper_schema}
use Rattle.keep_tables.proofs.TextLemmas.{query_of, task_places, by_key, tasks_text, tasks_is, tasks_plain}
use Rattle.keep_tables.proofs.QueryLemmas.{has_permuted}

-- what stands at a place is there
has_place : {X : Type 0} (xs : List X) (k : ℕ) (d : X) → k < length xs → Has xs (get_or xs k d)
has_place [] k d low = absurd (omega (arith, low))
has_place (x ∷ xs) zero d low = inl refl
has_place (x ∷ xs) (suc k) d low = inr (has_place xs k d (omega (arith, low)))

module _ (tree : ℕ) (terms project : List Term) (order : List (Term × Key)) (params : Row) where
  abbrev q : Query
  q = record (query_of tree terms project) { order = order }

  -- an order of the rows that are shown, by which they are compared as ORDER BY compares their sources
  module _ (by : Row → Row → Ordering) (same : (x y : Env) → by (eval_all project x) (eval_all project y) ≡ output_cmp q (output q x) (output q y)) where
    alike : (o p : Output) (x y : Env) → o ≡ output q x → p ≡ output q y → by o.1 p.1 ≡ output_cmp q o p
    alike o p x y is_o is_p = rw (is_o, is_p) (same x y)

    pub in_order : (db : Trees) (rows : List Row) → IsAnswer q (overlay db []) params rows → IsSorted by rows
    in_order db rows a =
        let each = λ (o : Output) (at : Has a.ordered o). has_mapped (output q) a.staged o (subst (λ all. Has all o) a.distinct (has_permuted a.kept a.ordered o a.same at)) in
        subst (IsSorted by) (sym a.shown) (λ k d low high.
        let within : k + 1 < length a.ordered = rw length-map at high in
        let o = get_or a.ordered (k + 1) (d, d) in
        let p = get_or a.ordered k (d, d) in
        let x = each o (has_place a.ordered (k + 1) (d, d) within) in
        let y = each p (has_place a.ordered k (d, d) (omega (arith, within))) in
        rw (get_or-map (λ (it : Output). it.1) a.ordered (k + 1) (d, d) d within, get_or-map (λ (it : Output). it.1) a.ordered k (d, d) d (omega (arith, within)))
        (ap is_lt (alike o p x.0 y.0 x.2 y.2) ∙ a.sorted k (d, d) low within))

-- the rows of tasks come by run and number
tasks_rise : (old new : State) (rows : List Row) → old.now.schema ≡ keeper_schema → Shown tasks_text [] old new rows → AreByKey rows
tasks_rise old new rows has ok =
    let got = reads_as tasks_text [] old new keeper_schema has _ tasks_is.0 tasks_plain tasks_is.1 rows ok in
    in_order 3 [] task_places by_key [] key_order (λ x y. refl) old.now.trees rows (got.answer Null)

pub rise_if : (old new : State) (r : Result (Vec Row Global) Error) → old.now.schema ≡ keeper_schema → IfOk r (λ rows. Shown tasks_text [] old new rows.items) → IfOk r (λ rows. AreByKey rows.items)
rise_if old new (Ok rows) has ok = tasks_rise old new rows.items has ok
rise_if old new (Err e) has ok = tt
