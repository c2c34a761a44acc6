-- What is read, against what is demanded.
use Rattle.std.proofs.Common.{◌≡◌, ◌⊎◌, inl, inr, ℕ, ◌≤◌, Bool, true, false, cond, nat_lt, List, [], ◌∷◌, ◌++◌, length, Option, None, Some, Result, Ok, Err, refl, sym, ap, ◌∙◌, subst, arith}
use Rattle.std.specs.Prelude.{unwrap_or, ⊤}
use Rattle.std.proofs.lemmas.Bool.Decides.{nat_tests}
use Rattle.serde_json.specs.Data.{Data}
use Rattle.call_json.specs.MemberLookups.{text_of, required}
use Rattle.call_json.specs.Ids.{known, needed, optional}
use Rattle.call_json.specs.Lists.{list_of, at_most, short_list_of, each_in}
use Rattle.call_json.specs.declared.members.fault.Member.{Member}
use Rattle.call_json.specs.declared.members.fault.Refusal.{Refusal}
use Rattle.call_json.specs.declared.members.fault.Refusal.TheVariants.{BadId, LimitExceeded}
use Rattle.call_json.specs.Answers.{◌>>=◌}
use Rattle.call_json.specs.Demands.{Demands, nothing, demand, ◌&◌, IsFirstOf, needs, needs_text, IsReadable, needs_read, may_read, needs_list, elements, needs_short_list, of_each, of_each_behind}
use Rattle.call_json.specs.Values.{HasText}
use Rattle.call_json.proofs.Binds.{bind_ok, bind_is, ok_one}
use Rattle.call_json.proofs.ReadValues.{text_is, text_at, no_text, list_is, no_list, required_is}
use Rattle.call_json.proofs.ReadLists.{at_most_is}

abbrev pub AreMet : Demands → Type 0
AreMet nothing = ⊤
AreMet (demand holds due rest) = holds × AreMet rest

-- a good end meets all demands, and a refusal is that of the first one that isn't met
abbrev pub Judges : {A : Type 0} → Result A Refusal → Demands → Type 0
Judges (Ok x) demands = AreMet demands
Judges (Err e) demands = IsFirstOf demands e

met_and_not : (ds : Demands) (e : Refusal) → AreMet ds → IsFirstOf ds e → ⊥
met_and_not nothing e met first = first
met_and_not (demand holds due rest) e met (inl w) = w.0 met.0
met_and_not (demand holds due rest) e met (inr w) = met_and_not rest e met.1 w.1

one_first : (ds : Demands) (e f : Refusal) → IsFirstOf ds e → IsFirstOf ds f → e ≡ f
one_first nothing e f a b = absurd a
one_first (demand holds due rest) e f (inl a) (inl b) = a.1 ∙ sym b.1
one_first (demand holds due rest) e f (inl a) (inr b) = absurd (a.0 b.0)
one_first (demand holds due rest) e f (inr a) (inl b) = absurd (b.0 a.0)
one_first (demand holds due rest) e f (inr a) (inr b) = one_first rest e f a.1 b.1

pub first_is : {A : Type 0} (m : Result A Refusal) (ds : Demands) (e : Refusal) → Judges m ds → m ≡ Err e → IsFirstOf ds e
first_is m ds e judged is = subst (λ r. Judges r ds) is judged

pub first_at : {A : Type 0} (m : Result A Refusal) (ds : Demands) (e : Refusal) → Judges m ds → IsFirstOf ds e → m ≡ Err e
first_at (Ok x) ds e met first = absurd (met_and_not ds e met first)
first_at (Err f) ds e judged first = ap (λ g. Err g) (one_first ds f e judged first)

-- ---- one step after another

first_then : (ds later : Demands) (e : Refusal) → IsFirstOf ds e → IsFirstOf (ds & later) e
first_then nothing later e first = absurd first
first_then (demand holds due rest) later e (inl w) = inl w
first_then (demand holds due rest) later e (inr w) = inr (w.0, first_then rest later e w.1)

both_met : (ds later : Demands) → AreMet ds → AreMet later → AreMet (ds & later)
both_met nothing later met also = also
both_met (demand holds due rest) later met also = (met.0, both_met rest later met.1 also)

later_first : (ds later : Demands) (e : Refusal) → AreMet ds → IsFirstOf later e → IsFirstOf (ds & later) e
later_first nothing later e met first = first
later_first (demand holds due rest) later e met first = inr (met.0, later_first rest later e met.1 first)

pub met_then : {A : Type 0} (m : Result A Refusal) (ds later : Demands) → AreMet ds → Judges m later → Judges m (ds & later)
met_then (Ok x) ds later met judged = both_met ds later met judged
met_then (Err e) ds later met judged = later_first ds later e met judged

pub judges_then : {A B : Type 0} (m : Result A Refusal) (f : A → Result B Refusal) (ds later : Demands) → Judges m ds → ((x : A) → m ≡ Ok x → Judges (f x) later) → Judges (m >>= f) (ds & later)
judges_then (Ok x) f ds later met next = met_then (f x) ds later met (next x refl)
judges_then (Err e) f ds later first next = first_then ds later e first

-- nothing more is demanded of what comes then
pub judges_last : {A B : Type 0} (m : Result A Refusal) (f : A → B) (ds : Demands) → Judges m ds → Judges (m >>= (λ x. Ok (f x))) ds
judges_last (Ok x) f ds met = met
judges_last (Err e) f ds first = first

-- ---- texts

pub text_judged : (member : Member) (o : Option Data) → Judges (required member (text_of o)) (needs_text member o)
text_judged member o = by_case (text_of o) refl
  where
    by_case : (t : Option (List ℕ)) → text_of o ≡ t → Judges (required member t) (needs_text member o)
    by_case None none = inl (no_text o none, refl)
    by_case (Some text) some = ((text, text_is o text some), tt)

pub known_judged : {A : Type 0} (reads : List ℕ → Option A) (o : Option Data) (text : List ℕ) → text_of o ≡ Some text → Judges (known (reads text)) (needs (IsReadable reads o) BadId)
known_judged {A} reads o text some = by_case (reads text) refl
  where
    unread : reads text ≡ None → ¬ (IsReadable reads o)
    unread none (x, (t, there, read)) =
        let one : Some t ≡ Some text = sym (text_at o t there) ∙ some in
        let same : t ≡ text = cc in
        let bad : None ≡ Some x = sym none ∙ ap reads (sym same) ∙ read in
        absurd cc

    by_case : (r : Option A) → reads text ≡ r → Judges (known r) (needs (IsReadable reads o) BadId)
    by_case None none = inl (unread none, refl)
    by_case (Some x) is = ((x, (text, text_is o text some, is)), tt)

pub needed_judged : {A : Type 0} (member : Member) (reads : List ℕ → Option A) (o : Option Data) → Judges (needed member reads (text_of o)) (needs_read member reads o)
unfolding needed
needed_judged member reads o =
    judges_then (required member (text_of o)) (λ text. known (reads text)) (needs_text member o) (needs (IsReadable reads o) BadId)
    (text_judged member o) (λ text is. known_judged reads o text (required_is member (text_of o) text is))

pub optional_judged : {A : Type 0} (reads : List ℕ → Option A) (o : Option Data) → Judges (optional reads (text_of o)) (may_read reads o)
unfolding optional
optional_judged {A} reads o = by_case (text_of o) refl
  where
    by_known : (r : Option A) (text : List ℕ) → text_of o ≡ Some text → Judges (known r) (needs (IsReadable reads o) BadId) → Judges (known r >>= λ x. Ok (Some x)) (may_read reads o)
    by_known None text some (inl w) = inl (no_either (w.0) (text, text_is o text some), w.1)
      where
        no_either : ¬ (IsReadable reads o) → HasText o → ¬ (¬ (HasText o) ⊎ IsReadable reads o)
        no_either bad has (inl lacks) = lacks has
        no_either bad has (inr good) = bad good
    by_known None text some (inr w) = absurd w.1
    by_known (Some x) text some met = (inr met.0, tt)

    by_case : (t : Option (List ℕ)) → text_of o ≡ t → Judges (optional reads t) (may_read reads o)
    by_case None none = (inl (no_text o none), tt)
    by_case (Some text) some = by_known (reads text) text some (known_judged reads o text some)

-- ---- lists

pub list_judged : (member : Member) (o : Option Data) → Judges (required member (list_of o)) (needs_list member o)
list_judged member o = by_case (list_of o) refl
  where
    by_case : (l : Option (List Data)) → list_of o ≡ l → Judges (required member l) (needs_list member o)
    by_case None none = inl (no_list o none, refl)
    by_case (Some ds) some = ((ds, list_is o ds some), tt)

pub elements_are : (o : Option Data) (ds : List Data) → list_of o ≡ Some ds → elements o ≡ ds
elements_are o ds is = ap (λ (l : Option (List Data)). unwrap_or l []) is

few_judged : (limit : ℕ) (ds : List Data) → Judges (at_most limit ds) (needs (length ds ≤ limit) LimitExceeded)
few_judged limit ds = by_test (nat_lt limit (length ds)) refl
  where
    by_test : (t : Bool) → nat_lt limit (length ds) ≡ t → Judges (cond t (Err LimitExceeded) (Ok ds)) (needs (length ds ≤ limit) LimitExceeded)
    by_test true over = inl ((λ le. let no : ⊥ = grind (arith, nat_tests) in no), refl)
    by_test false within = (grind (arith, nat_tests), tt)

pub short_list_judged : (member : Member) (limit : ℕ) (o : Option Data) → Judges (short_list_of member limit o) (needs_short_list member limit o)
unfolding short_list_of
short_list_judged member limit o =
    judges_then (required member (list_of o)) (at_most limit) (needs_list member o) (needs (length (elements o) ≤ limit) LimitExceeded) (list_judged member o)
    (λ ds is. subst (λ (es : List Data). Judges (at_most limit ds) (needs (length es ≤ limit) LimitExceeded)) (sym (elements_are o ds (required_is member (list_of o) ds is))) (few_judged limit ds))

pub short_elements : (member : Member) (limit : ℕ) (o : Option Data) (ds : List Data) → short_list_of member limit o ≡ Ok ds → elements o ≡ ds
unfolding short_list_of
short_elements member limit o ds is =
    let both = bind_ok (required member (list_of o)) (at_most limit) ds is in
    elements_are o both.x (required_is member (list_of o) both.x both.first) ∙ (at_most_is limit both.x ds both.second).0

pub each_judged : {S : Type 0} (step : S → Data → Result S Refusal) (demands : Data → Demands) → ((s : S) (d : Data) → Judges (step s d) (demands d)) → (s : S) (ds : List Data)
    → Judges (each_in step s ds) (of_each demands ds)
each_judged step demands one s [] = tt
each_judged step demands one s (d ∷ ds) =
    judges_then (step s d) (λ t. each_in step t ds) (demands d) (of_each demands ds) (one s d) (λ t is. each_judged step demands one t ds)

-- one element behind those that were read
pub each_more : {S : Type 0} (step : S → Data → Result S Refusal) (first s t : S) (before : List Data) (d : Data) → each_in step first before ≡ Ok s → step s d ≡ Ok t
    → each_in step first (before ++ d ∷ []) ≡ Ok t
each_more step first s t [] d is next =
    bind_is (step first d) (λ u. Ok u) t t (ap (λ u. step u d) (ok_one first s is) ∙ next) refl
each_more step first s t (b ∷ before) d is next =
    let both = bind_ok (step first b) (λ u. each_in step u before) s is in
    bind_is (step first b) (λ u. each_in step u (before ++ d ∷ [])) both.x t both.first (each_more step both.x s t before d both.second next)

pub each_one : {S : Type 0} (step : S → Data → Result S Refusal) (first s t : S) (before : List Data) (d : Data) → each_in step first before ≡ Ok s → each_in step first (before ++ d ∷ []) ≡ Ok t
    → step s d ≡ Ok t
each_one step first s t [] d is all =
    let both = bind_ok (step first d) (λ u. Ok u) t all in
    ap (λ u. step u d) (sym (ok_one first s is)) ∙ both.first ∙ both.second
each_one step first s t (b ∷ before) d is all =
    let one = bind_ok (step first b) (λ u. each_in step u before) s is in
    let other = bind_ok (step first b) (λ u. each_in step u (before ++ d ∷ [])) t all in
    let same : one.x ≡ other.x = ok_one one.x other.x (sym one.first ∙ other.first) in
    each_one step other.x s t before d (ap (λ u. each_in step u before) (sym same) ∙ one.second) other.second

pub behind_judged : {S : Type 0} (step : S → Data → Result S Refusal) (demands : List Data → Data → Demands) (first : S)
    → ((before : List Data) (s : S) (d : Data) → each_in step first before ≡ Ok s → Judges (step s d) (demands before d))
    → (before : List Data) (s : S) (ds : List Data) → each_in step first before ≡ Ok s → Judges (each_in step s ds) (of_each_behind demands before ds)
behind_judged step demands first one before s [] so_far = tt
behind_judged step demands first one before s (d ∷ ds) so_far =
    judges_then (step s d) (λ t. each_in step t ds) (demands before d) (of_each_behind demands (before ++ d ∷ []) ds) (one before s d so_far)
    (λ t is. behind_judged step demands first one (before ++ d ∷ []) t ds (each_more step first s t before d so_far is))
