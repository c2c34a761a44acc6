-- Lists that are read one element after another.
use Rattle.std.proofs.Common.{◌≡◌, ℕ, ◌≤◌, List, [], ◌∷◌, ◌++◌, length, Option, Some, Result, Ok, Err, refl, sym, ap, ◌∙◌, subst, append_assoc, append-nil, arith}
use Rattle.std.specs.Prelude.{Bool, true, false, nat_lt, cond}
use Rattle.std.proofs.lemmas.Bool.{cond-false}
use Rattle.std.proofs.lemmas.Bool.Decides.{nat_tests}
use Rattle.serde_json.specs.Data.{Data}
use Rattle.call_json.specs.MemberLookups.{required}
use Rattle.call_json.specs.Lists.{list_of, at_most, each_in, short_list_of}
use Rattle.call_json.specs.declared.members.fault.Member.{Member}
use Rattle.call_json.specs.declared.members.fault.Refusal.{Refusal}
use Rattle.call_json.specs.declared.members.fault.Refusal.TheVariants.{LimitExceeded}
use Rattle.call_json.specs.Answers.{◌>>=◌}
use Rattle.call_json.specs.Values.{EachIs, IsShortList}
use Rattle.call_json.proofs.Binds.{bind_ok, bind_is, ok_one}
use Rattle.call_json.proofs.ReadValues.{list_is, list_at, required_is, required_at}

-- a step adds what it reads of an element to the items before it
pub record Adds {A : Type 0} (step : List A → Data → Result (List A) Refusal) (R : Data → A → Type 0) : Type 0 where
  pub reads : (xs ys : List A) (d : Data) → step xs d ≡ Ok ys → (x : A) × R d x × (ys ≡ xs ++ x ∷ [])
  pub adds : (xs : List A) (d : Data) (x : A) → R d x → step xs d ≡ Ok (xs ++ x ∷ [])

pub each_is : {A : Type 0} (step : List A → Data → Result (List A) Refusal) (R : Data → A → Type 0) → Adds step R → (xs : List A) (ds : List Data) (all : List A)
    → each_in step xs ds ≡ Ok all → (ys : List A) × EachIs R ds ys × (all ≡ xs ++ ys)
each_is step R adds xs [] all is = ([], tt, sym (ok_one xs all is) ∙ sym (append-nil xs))
each_is step R adds xs (d ∷ ds) all is =
    let both = bind_ok (step xs d) (λ t. each_in step t ds) all is in
    let one = adds.reads xs both.x d both.first in
    let rest = each_is step R adds both.x ds all both.second in
    (one.0 ∷ rest.0, (one.1, rest.1), rest.2 ∙ ap (λ (t : List _). t ++ rest.0) one.2 ∙ append_assoc xs (one.0 ∷ []) rest.0)

pub each_at : {A : Type 0} (step : List A → Data → Result (List A) Refusal) (R : Data → A → Type 0) → Adds step R → (xs : List A) (ds : List Data) (ys : List A)
    → EachIs R ds ys → each_in step xs ds ≡ Ok (xs ++ ys)
each_at step R adds xs [] [] are = ap (λ (t : List _). Ok t) (sym (append-nil xs))
each_at step R adds xs [] (y ∷ ys) are = absurd are
each_at step R adds xs (d ∷ ds) [] are = absurd are
each_at step R adds xs (d ∷ ds) (y ∷ ys) are =
    bind_is (step xs d) (λ t. each_in step t ds) (xs ++ y ∷ []) (xs ++ y ∷ ys) (adds.adds xs d y are.0)
    (each_at step R adds (xs ++ y ∷ []) ds ys are.1 ∙ ap (λ (t : List _). Ok t) (append_assoc xs (y ∷ []) ys))

pub at_most_is : (limit : ℕ) (ds es : List Data) → at_most limit ds ≡ Ok es → (ds ≡ es) × (length ds ≤ limit)
at_most_is limit ds es is = by_test (nat_lt limit (length ds)) refl is
  where
    by_test : (t : Bool) → nat_lt limit (length ds) ≡ t → cond t (Err LimitExceeded) (Ok ds) ≡ Ok es → (ds ≡ es) × (length ds ≤ limit)
    by_test true over e = absurd cc
    by_test false within e = (ok_one ds es e, grind (arith, nat_tests))

pub at_most_at : (limit : ℕ) (ds : List Data) → length ds ≤ limit → at_most limit ds ≡ Ok ds
at_most_at limit ds few = let test : nat_lt limit (length ds) ≡ false = grind (arith, nat_tests) in cond-false _ _ _ test

-- a short list whose elements are read one after another
pub short_is : {A : Type 0} (step : List A → Data → Result (List A) Refusal) (R : Data → A → Type 0) → Adds step R → (member : Member) (limit : ℕ) (o : Option Data) (ds : List Data) (xs : List A)
    → short_list_of member limit o ≡ Ok ds → each_in step [] ds ≡ Ok xs → IsShortList limit R o xs
unfolding short_list_of
short_is step R adds member limit o ds xs short each =
    let both = bind_ok (required member (list_of o)) (at_most limit) ds short in
    let few = at_most_is limit both.x ds both.second in
    let read = each_is step R adds [] ds xs each in (
      ds,
      list_is o ds (required_is member (list_of o) both.x both.first ∙ ap (λ (t : List Data). Some t) few.0),
      omega (arith, few.1, ap length few.0),
      subst (EachIs R ds) (sym read.2) read.1,
    )

pub short_at : {A : Type 0} (step : List A → Data → Result (List A) Refusal) (R : Data → A → Type 0) → Adds step R → (member : Member) (limit : ℕ) (o : Option Data) (xs : List A)
    → IsShortList limit R o xs → short_list_of member limit o >>= each_in step [] ≡ Ok xs
unfolding short_list_of
short_at step R adds member limit o xs has =
    bind_is (short_list_of member limit o) (each_in step []) has.0 xs
    (bind_is (required member (list_of o)) (at_most limit) has.0 has.0 (required_at member (list_of o) has.0 (list_at o has.0 has.1)) (at_most_at limit has.0 has.2))
    (each_at step R adds [] has.0 xs has.3)
