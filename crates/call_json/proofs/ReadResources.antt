-- The resources of a task, as they are read and as they are.
use Rattle.std.proofs.Common.{◌≡◌, inl, inr, ℕ, ◌+◌, Bool, true, false, cond, List, [], ◌∷◌, codes, bytes_eq, Option, None, Some, Result, Ok, Err, refl, sym, ap, ◌∙◌, subst, arith}
use Rattle.std.specs.Prelude.{IsTrue}
use Rattle.std.specs.Option.{option_and_then}
use Rattle.std.specs.Cmp.Lexicographic.{bytes_decides}
use Rattle.std.proofs.lemmas.Bool.{cond-true}
use Rattle.serde_json.specs.Data.{Data, Num}
use Rattle.serde_json.specs.Find.{get, as_number, as_u64}
use Rattle.quantity.specs.Names.{is_resource_name}
use Rattle.quantity.specs.Rows.{amount, AreRows, row, added}
use Rattle.quantity.specs.declared.rows.Row.{Row}
use Rattle.quantity.specs.declared.fault.QuantityFault.{QuantityFault}
use Rattle.quantity.proofs.Amounts.{amount-cons, amounts_determine_rows}
use Rattle.quantity.proofs.Rests.{no_rows}
use Rattle.call_json.specs.MemberLookups.{text_of, required}
use Rattle.call_json.specs.Ids.{needed, where_true}
use Rattle.call_json.specs.Lists.{list_of, each_in}
use Rattle.call_json.specs.declared.members.fault.Member.{Member}
use Rattle.call_json.specs.declared.members.fault.Member.TheVariants as members
use Rattle.call_json.specs.declared.members.fault.Refusal.{Refusal}
use Rattle.call_json.specs.declared.members.fault.Refusal.TheVariants.{NotScalar}
use Rattle.call_json.specs.Answers.{◌>>=◌}
use Rattle.call_json.specs.Resources.{resource_name, only_scalar, only_default, whole, amount_of, kind_of, within_limits, add_resource, resources_of}
use Rattle.call_json.specs.Values.{at, IsText, IsWhole, EachIs}
use Rattle.call_json.specs.Launches.{IsUnreserved, IsScalar, AreScalars, AreResources}
use Rattle.call_json.proofs.Binds.{bind_ok, bind_is, ok_one}
use Rattle.call_json.proofs.ReadValues.{text_is, text_at, no_text, lacks_text, list_is, list_at, whole_is, whole_at, required_is, required_at, needed_is, needed_at}
use Rattle.call_json.proofs.Sums.{added_are, added_fit}

-- ---- texts and numbers

pub where_is : (test : List ℕ → Bool) (text x : List ℕ) → where_true test text ≡ Some x → (x ≡ text) × (test text ≡ true)
where_is test text x is = by_test (test text) refl is
  where
    by_test : (t : Bool) → test text ≡ t → cond t (Some text) None ≡ Some x → (x ≡ text) × (test text ≡ true)
    by_test true good e = (sym cc, good)
    by_test false bad e = absurd cc

-- a text that has to be this word
pub word_is : {A : Type 0} (text word : List ℕ) (x y : A) (e : Refusal) → cond (bytes_eq text word) (Ok x) (Err e) ≡ Ok y → (text ≡ word) × (x ≡ y)
word_is {A} text word x y e is = by_test (bytes_eq text word) refl is
  where
    by_test : (t : Bool) → bytes_eq text word ≡ t → ◌≡◌ {A = Result A Refusal} (cond t (Ok x) (Err e)) (Ok y) → (text ≡ word) × (x ≡ y)
    by_test true same h = ((bytes_decides text word).0 same, ok_one x y h)
    by_test false other h = absurd cc

pub word_at : {A : Type 0} (text word : List ℕ) (x : A) (e : Refusal) → text ≡ word → ◌≡◌ {A = Result A Refusal} (cond (bytes_eq text word) (Ok x) (Err e)) (Ok x)
word_at text word x e same = cond-true _ _ _ ((bytes_decides text word).1 same)

number_read : (o : Option Num) (member : Member) (n : ℕ) → required member o >>= (λ x. whole (as_u64 x)) ≡ Ok n → option_and_then as_u64 o ≡ Some n
number_read None member n is = absurd cc
number_read (Some x) member n is = by_case (as_u64 x) is
  where
    by_case : (o : Option ℕ) → whole o ≡ Ok n → o ≡ Some n
    by_case None e = absurd cc
    by_case (Some m) e = ap (λ k. Some k) (ok_one m n e)

number_of : (o : Option Num) (member : Member) (n : ℕ) → option_and_then as_u64 o ≡ Some n → required member o >>= (λ x. whole (as_u64 x)) ≡ Ok n
number_of None member n is = absurd cc
number_of (Some x) member n is = ap whole is

amount_is : (d : Data) (n : ℕ) → amount_of d ≡ Ok n → IsWhole (at (codes "scalar" ∷ codes "value" ∷ []) d) n
unfolding amount_of
amount_is d n is =
    let o = at (codes "scalar" ∷ codes "value" ∷ []) d in
    whole_is o n (number_read (option_and_then as_number o) members.ResourceValue n is)

amount_at : (d : Data) (n : ℕ) → IsWhole (at (codes "scalar" ∷ codes "value" ∷ []) d) n → amount_of d ≡ Ok n
unfolding amount_of
amount_at d n is =
    let o = at (codes "scalar" ∷ codes "value" ∷ []) d in
    number_of (option_and_then as_number o) members.ResourceValue n (whole_at o n is)

-- ---- kinds

default_is : (d : Data) (t x : Option (List ℕ)) → text_of (get (codes "role") d) ≡ t → only_default t ≡ Ok x → IsUnreserved d
default_is d None x at is = inl (no_text (get (codes "role") d) at)
default_is d (Some role) x at is = inr (text_is (get (codes "role") d) (codes "*") (at ∙ ap (λ t. Some t) (word_is role (codes "*") (Some role) x NotScalar is).0))

default_at : (d : Data) → IsUnreserved d → (x : Option (List ℕ)) × (only_default (text_of (get (codes "role") d)) ≡ Ok x)
default_at d (inl none) = (None, ap only_default (lacks_text (get (codes "role") d) none))
default_at d (inr star) = (Some (codes "*"), ap only_default (text_at (get (codes "role") d) (codes "*") star) ∙ word_at (codes "*") (codes "*") (Some (codes "*")) NotScalar refl)

pub record IsKind (d : Data) : Type 0 where
  pub type : IsText (at (codes "type" ∷ []) d) (codes "SCALAR")
  pub unreserved : IsUnreserved d

pub kind_is : (d : Data) (kind : List ℕ) → kind_of d ≡ Ok kind → IsKind d
unfolding kind_of
kind_is d kind is =
    let typed = bind_ok (required members.ResourceType (text_of (get (codes "type") d))) _ kind is in
    let scalar = bind_ok (only_scalar typed.x) _ kind typed.second in
    let role = bind_ok (only_default (text_of (get (codes "role") d))) _ kind scalar.second in
    record {
      type = text_is (get (codes "type") d) (codes "SCALAR") (required_is members.ResourceType (text_of (get (codes "type") d)) typed.x typed.first
          ∙ ap (λ t. Some t) (word_is typed.x (codes "SCALAR") typed.x scalar.x NotScalar scalar.first).0);
      unreserved = default_is d (text_of (get (codes "role") d)) role.x refl role.first;
    }

pub kind_at : (d : Data) → IsKind d → kind_of d ≡ Ok (codes "SCALAR")
unfolding kind_of
kind_at d is =
    let role = default_at d is.unreserved in
    bind_is (required members.ResourceType (text_of (get (codes "type") d))) _ (codes "SCALAR") (codes "SCALAR")
    (required_at members.ResourceType (text_of (get (codes "type") d)) (codes "SCALAR") (text_at (get (codes "type") d) (codes "SCALAR") is.type))
    (bind_is (only_default (text_of (get (codes "role") d))) (λ x. Ok (codes "SCALAR")) role.0 (codes "SCALAR") role.1 refl)

-- ---- a resource after others

limits_is : (o : Result (List Row) QuantityFault) (out : List Row) → within_limits o ≡ Ok out → o ≡ Ok out
limits_is (Ok rows) out is = ap (λ r. Ok r) (ok_one rows out is)
limits_is (Err e) out is = absurd cc

pub record IsAdded (rows : List Row) (d : Data) (out : List Row) : Type 0 where
  pub part : Row
  pub scalar : IsScalar d part
  pub added : added part.name part.amount rows ≡ Ok out

pub add_is : (rows : List Row) (d : Data) (out : List Row) → add_resource rows d ≡ Ok out → IsAdded rows d out
unfolding add_resource
add_is rows d out is =
    let name = bind_ok (needed members.ResourceName resource_name (text_of (get (codes "name") d))) _ out is in
    let kind = bind_ok (kind_of d) _ out name.second in
    let value = bind_ok (amount_of d) _ out kind.second in
    let kinds = kind_is d kind.x kind.first in
    record {
      part = row name.x value.x;
      scalar = record {
        name = needed_is members.ResourceName resource_name (get (codes "name") d) name.x name.first;
        type = kinds.type;
        unreserved = kinds.unreserved;
        value = amount_is d value.x value.first;
      };
      added = limits_is (added name.x value.x rows) out value.second;
    }

pub add_at : (rows : List Row) (d : Data) (out : List Row) → IsAdded rows d out → add_resource rows d ≡ Ok out
unfolding add_resource
add_at rows d out is =
    bind_is (needed members.ResourceName resource_name (text_of (get (codes "name") d))) _ is.part.name out
    (needed_at members.ResourceName resource_name (get (codes "name") d) is.part.name is.scalar.name)
    (bind_is (kind_of d) _ (codes "SCALAR") out (kind_at d (record { type = is.scalar.type; unreserved = is.scalar.unreserved }))
    (bind_is (amount_of d) _ is.part.amount out (amount_at d is.part.amount is.scalar.value) (ap within_limits is.added)))

pub scalar_named : (d : Data) (part : Row) → IsScalar d part → IsTrue (is_resource_name part.name)
scalar_named d part is =
    let text = where_is is_resource_name is.name.0 part.name is.name.2 in
    ap is_resource_name text.0 ∙ text.1

-- ---- resources one after another

-- behind these rows, the parts are added
pub record AddsUp (rows : List Row) (ds : List Data) (out : List Row) : Type 0 where
  pub parts : List Row
  pub each : EachIs IsScalar ds parts
  pub within : AreRows out
  pub sum : (q : List ℕ) → amount q out ≡ amount q rows + amount q parts

pub all_are : (rows : List Row) (ds : List Data) (out : List Row) → AreRows rows → each_in add_resource rows ds ≡ Ok out → AddsUp rows ds out
all_are rows [] out are is =
    let same : rows ≡ out = ok_one rows out is in
    record { parts = []; each = tt; within = subst AreRows same are; sum = λ q. omega (arith, ap (amount q) same) }
all_are rows (d ∷ ds) out are is =
    let both = bind_ok (add_resource rows d) (λ t. each_in add_resource t ds) out is in
    let one = add_is rows d both.x both.first in
    let raised = added_are one.part.name one.part.amount rows both.x are (scalar_named d one.part one.scalar) one.added in
    let rest = all_are both.x ds out raised.are both.second in
    record {
      parts = one.part ∷ rest.parts;
      each = (one.scalar, rest.each);
      within = rest.within;
      sum = λ q. omega (arith, rest.sum q, raised.sum q, amount-cons q one.part rest.parts);
    }

pub all_add : (rows : List Row) (ds : List Data) (parts out : List Row) → AreRows rows → EachIs IsScalar ds parts → AreRows out
    → ((q : List ℕ) → amount q out ≡ amount q rows + amount q parts) → each_in add_resource rows ds ≡ Ok out
all_add rows [] [] out are each within sum = ap (λ r. Ok r) (amounts_determine_rows rows out are within (λ q. omega (arith, sum q)))
all_add rows [] (p ∷ parts) out are each within sum = absurd each
all_add rows (d ∷ ds) [] out are each within sum = absurd each
all_add rows (d ∷ ds) (p ∷ parts) out are each within sum =
    let named = scalar_named d p each.0 in
    let one = added_fit p.name p.amount rows out are named within (λ q. omega (arith, sum q, amount-cons q p parts)) in
    let raised = added_are p.name p.amount rows one.0 are named one.1 in
    bind_is (add_resource rows d) (λ t. each_in add_resource t ds) one.0 out (add_at rows d one.0 (record { part = p; scalar = each.0; added = one.1 }))
    (all_add one.0 ds parts out raised.are each.1 within (λ q. omega (arith, sum q, raised.sum q, amount-cons q p parts)))

pub scalars_are : (ds : List Data) (out : List Row) → each_in add_resource [] ds ≡ Ok out → AreScalars ds out
scalars_are ds out is =
    let all = all_are [] ds out no_rows is in
    record { parts = all.parts; each = all.each; within = all.within; sum = λ q. omega (arith, all.sum q) }

pub scalars_at : (ds : List Data) (out : List Row) → AreScalars ds out → each_in add_resource [] ds ≡ Ok out
scalars_at ds out are = all_add [] ds are.parts out no_rows are.each are.within (λ q. omega (arith, are.sum q))

pub resources_are : (o : Option Data) (rows : List Row) → resources_of o ≡ Ok rows → AreResources o rows
unfolding resources_of
resources_are o rows is =
    let both = bind_ok (required members.Resources (list_of o)) (each_in add_resource []) rows is in
    (both.x, list_is o both.x (required_is members.Resources (list_of o) both.x both.first), scalars_are both.x rows both.second)

pub resources_at : (o : Option Data) (rows : List Row) → AreResources o rows → resources_of o ≡ Ok rows
unfolding resources_of
resources_at o rows are =
    bind_is (required members.Resources (list_of o)) (each_in add_resource []) are.0 rows (required_at members.Resources (list_of o) are.0 (list_at o are.0 are.1)) (scalars_at are.0 rows are.2)
