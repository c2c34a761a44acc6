-- What is read of a value, and what stands there.
use Rattle.std.proofs.Common.{◌≡◌, ℕ, List, Option, None, Some, Ok, refl, sym, ap, ◌∙◌, subst}
use Rattle.std.specs.Option.{option_map, option_and_then}
use Rattle.serde_json.specs.Data.{Data, Num, unsigned, negative, float, null, boolean, number, string, array, object, Items, no_items, item}
use Rattle.serde_json.specs.Find.{as_str, as_array, as_number, as_u64}
use Rattle.serde_json.specs.View.{items_of}
use Rattle.call_json.specs.MemberLookups.{text_of, required}
use Rattle.call_json.specs.Ids.{needed, optional, known}
use Rattle.call_json.specs.Lists.{list_of, values_of}
use Rattle.call_json.proofs.Each.{values_of_items}
use Rattle.call_json.specs.declared.members.fault.Member.{Member}
use Rattle.call_json.specs.Answers.{◌>>=◌}
use Rattle.call_json.specs.Values.{IsText, HasText, IsRead, IsReadOrNot, IsWhole, IsList, HasList}
use Rattle.call_json.proofs.Binds.{Both, bind_ok, bind_is, ok_one}

-- ---- texts

str_is : (d : Data) (text : List ℕ) → as_str d ≡ Some text → d ≡ string text
str_is null text is = absurd cc
str_is (boolean b) text is = absurd cc
str_is (number n) text is = absurd cc
str_is (string s) text is = let same : s ≡ text = cc in ap string same
str_is (array ds) text is = absurd cc
str_is (object ms) text is = absurd cc

pub text_is : (o : Option Data) (text : List ℕ) → text_of o ≡ Some text → IsText o text
text_is None text is = absurd cc
text_is (Some d) text is = ap (λ (e : Data). Some e) (str_is d text is)

pub text_at : (o : Option Data) (text : List ℕ) → IsText o text → text_of o ≡ Some text
text_at o text is = ap text_of is

pub no_text : (o : Option Data) → text_of o ≡ None → ¬ (HasText o)
no_text o none has = let bad : None ≡ Some has.0 = sym none ∙ text_at o has.0 has.1 in absurd cc

pub lacks_text : (o : Option Data) → ¬ (HasText o) → text_of o ≡ None
lacks_text o lacks = by_case (text_of o) refl
  where
    by_case : (t : Option (List ℕ)) → text_of o ≡ t → text_of o ≡ None
    by_case None is = is
    by_case (Some text) is = absurd (lacks (text, text_is o text is))

-- ---- lists

pub items_of_values : (ds : Items) → items_of (values_of ds) ≡ ds
items_of_values no_items = refl
items_of_values (item d ds) = ap (item d) (items_of_values ds)

array_is : (d : Data) (ds : List Data) → option_map values_of (as_array d) ≡ Some ds → d ≡ array (items_of ds)
array_is null ds is = absurd cc
array_is (boolean b) ds is = absurd cc
array_is (number n) ds is = absurd cc
array_is (string s) ds is = absurd cc
array_is (array es) ds is =
    let same : values_of es ≡ ds = cc in
    ap array (sym (items_of_values es) ∙ ap items_of same)
array_is (object ms) ds is = absurd cc

pub list_is : (o : Option Data) (ds : List Data) → list_of o ≡ Some ds → IsList o ds
list_is None ds is = absurd cc
list_is (Some d) ds is = ap (λ (e : Data). Some e) (array_is d ds is)

pub list_at : (o : Option Data) (ds : List Data) → IsList o ds → list_of o ≡ Some ds
list_at o ds is = ap list_of is ∙ ap (λ (t : List Data). Some t) (values_of_items ds)

pub no_list : (o : Option Data) → list_of o ≡ None → ¬ (HasList o)
no_list o none has = let bad : None ≡ Some has.0 = sym none ∙ list_at o has.0 has.1 in absurd cc

pub lacks_list : (o : Option Data) → ¬ (HasList o) → list_of o ≡ None
lacks_list o lacks = by_case (list_of o) refl
  where
    by_case : (t : Option (List Data)) → list_of o ≡ t → list_of o ≡ None
    by_case None is = is
    by_case (Some ds) is = absurd (lacks (ds, list_is o ds is))

-- ---- whole numbers

abbrev pub whole_of : Option Data → Option ℕ
whole_of o = option_and_then as_u64 (option_and_then as_number o)

whole_in : (n : Num) (m : ℕ) → as_u64 n ≡ Some m → n ≡ unsigned m
whole_in (unsigned n) m is = let same : n ≡ m = cc in ap unsigned same
whole_in (negative z) m is = absurd cc
whole_in (float x) m is = absurd cc

number_is : (d : Data) (m : ℕ) → option_and_then as_u64 (as_number d) ≡ Some m → d ≡ number (unsigned m)
number_is null m is = absurd cc
number_is (boolean b) m is = absurd cc
number_is (number n) m is = ap number (whole_in n m is)
number_is (string s) m is = absurd cc
number_is (array ds) m is = absurd cc
number_is (object ms) m is = absurd cc

pub whole_is : (o : Option Data) (n : ℕ) → whole_of o ≡ Some n → IsWhole o n
whole_is None n is = absurd cc
whole_is (Some d) n is = ap (λ (e : Data). Some e) (number_is d n is)

pub whole_at : (o : Option Data) (n : ℕ) → IsWhole o n → whole_of o ≡ Some n
whole_at o n is = ap whole_of is

-- ---- what is required

pub required_is : {A : Type 0} (member : Member) (o : Option A) (x : A) → required member o ≡ Ok x → o ≡ Some x
required_is member None x is = absurd cc
required_is member (Some y) x is = ap (λ z. Some z) (ok_one y x is)

pub required_at : {A : Type 0} (member : Member) (o : Option A) (x : A) → o ≡ Some x → required member o ≡ Ok x
required_at member o x is = ap (required member) is

pub known_is : {A : Type 0} (o : Option A) (x : A) → known o ≡ Ok x → o ≡ Some x
known_is None x is = absurd cc
known_is (Some y) x is = ap (λ z. Some z) (ok_one y x is)

-- ---- texts that read as something

pub needed_is : {A : Type 0} (member : Member) (reads : List ℕ → Option A) (o : Option Data) (x : A) → needed member reads (text_of o) ≡ Ok x → IsRead reads o x
unfolding needed
needed_is member reads o x is =
    let both = bind_ok (required member (text_of o)) (λ text. known (reads text)) x is in
    (both.x, text_is o both.x (required_is member (text_of o) both.x both.first), known_is (reads both.x) x both.second)

pub needed_at : {A : Type 0} (member : Member) (reads : List ℕ → Option A) (o : Option Data) (x : A) → IsRead reads o x → needed member reads (text_of o) ≡ Ok x
unfolding needed
needed_at member reads o x has =
    bind_is (required member (text_of o)) (λ text. known (reads text)) has.0 x
    (required_at member (text_of o) has.0 (text_at o has.0 has.1)) (ap known has.2)

optional_text : {A : Type 0} (reads : List ℕ → Option A) (o : Option Data) (t : Option (List ℕ)) (x : Option A) → text_of o ≡ t → optional reads t ≡ Ok x → IsReadOrNot reads o x
unfolding optional
optional_text reads o None x at is = by_case x (ok_one None x is)
  where
    by_case : (y : Option _) → None ≡ y → IsReadOrNot reads o y
    by_case None e = no_text o at
    by_case (Some z) e = absurd cc
optional_text reads o (Some text) x at is = by_case (bind_ok (known (reads text)) (λ y. Ok (Some y)) x is)
  where
    by_case : Both (known (reads text)) (λ y. Ok (Some y)) x → IsReadOrNot reads o x
    by_case both =
        let same : Some both.x ≡ x = ok_one (Some both.x) x both.second in
        subst (IsReadOrNot reads o) same (text, text_is o text at, known_is (reads text) both.x both.first)

pub optional_is : {A : Type 0} (reads : List ℕ → Option A) (o : Option Data) (x : Option A) → optional reads (text_of o) ≡ Ok x → IsReadOrNot reads o x
optional_is reads o x is = optional_text reads o (text_of o) x refl is

pub optional_at : {A : Type 0} (reads : List ℕ → Option A) (o : Option Data) (x : Option A) → IsReadOrNot reads o x → optional reads (text_of o) ≡ Ok x
unfolding optional
optional_at reads o None lacks = ap (optional reads) (lacks_text o lacks)
optional_at reads o (Some x) has = ap (optional reads) (text_at o has.0 has.1) ∙ ap (λ r. known r >>= λ y. Ok (Some y)) has.2
