-- Tasks whose launch keys rise are tasks whose places rise.
use Rattle.std.proofs.Common.{◌≡◌, ◌⊎◌, ◌<◌, ◌^◌, inl, inr, List, [], ◌∷◌, Bool, true, false, nat_lt, Some, refl, arith, ◌==◌, ◌&&◌, ◌||◌}
use Rattle.std.specs.List.{AllByRecursion}
use Rattle.std.proofs.lemmas.Bool.{and_parts}
use Rattle.std.proofs.lemmas.Bool.Decides.{nat_tests}
use Rattle.sqlite_rules.proofs.ListLemmas.{all_from, all_has}
use Rattle.names_core.specs.Ids.{Numbered, before}
use Rattle.messages.specs.declared.record.RecordedTask.{RecordedTask}
use Rattle.agent_core.specs.Records.{keys_rise, rise_behind}
use Rattle.event_json.specs.Written.{IsTask}
use Rattle.keep_tables.specs.Tables.{place_of}
use Rattle.keep_store.specs.SavesKept.{IsPut, Rise}

before_place : (a b : Numbered) → a.n < 2 ^ 32 → before a b ≡ true → place_of a < place_of b
before_place a b small h = go (either (nat_lt a.run b.run) (a.run == b.run && nat_lt a.n b.n) h)
  where
    either : (x y : Bool) → (x || y) ≡ true → (x ≡ true) ⊎ (y ≡ true)
    either true y h = inl refl
    either false y h = inr h

    go : (nat_lt a.run b.run ≡ true) ⊎ ((a.run == b.run && nat_lt a.n b.n) ≡ true) → place_of a < place_of b
    go (inl lower) =
        let l : a.run < b.run = grind (arith, nat_tests) in
        omega (arith, l, small)
    go (inr behind) =
        let parts = and_parts (a.run == b.run) (nat_lt a.n b.n) behind in
        let tied : (a.run == b.run) ≡ true = parts.0 in
        let less : nat_lt a.n b.n ≡ true = parts.1 in
        let e : a.run ≡ b.run = grind (arith, nat_tests) in
        let l : a.n < b.n = grind (arith, nat_tests) in
        omega (arith, e, l)

rise_all : (t : RecordedTask) (ts : List RecordedTask) → IsTask t → AllByRecursion IsTask ts → rise_behind (Some t.job.key) ts ≡ true
    → AllByRecursion (λ s. place_of t.job.key < place_of s.job.key) ts × Rise ts
rise_all t [] is all h = (tt, tt)
rise_all t (s ∷ ts) is all h =
    let parts = and_parts (before t.job.key s.job.key) (rise_behind (Some s.job.key) ts) h in
    let first = before_place t.job.key s.job.key is.key.n_fits parts.0 in
    let more = rise_all s ts all.0 all.1 parts.1 in
    ((first, all_from (λ x. place_of t.job.key < place_of x.job.key) ts (λ x at. omega (arith, first, all_has (λ x. place_of s.job.key < place_of x.job.key) ts x more.0 at))), more)

-- launch keys that rise are places that rise
pub rises : (ts : List RecordedTask) → AllByRecursion IsTask ts → keys_rise ts ≡ true → Rise ts
rises [] all h = tt
rises (t ∷ ts) all h = rise_all t ts all.0 all.1 h

pub put_are_tasks : (ts : List RecordedTask) → AllByRecursion IsPut ts → AllByRecursion IsTask ts
put_are_tasks [] all = tt
put_are_tasks (t ∷ ts) all = (all.0.is_task, put_are_tasks ts all.1)
