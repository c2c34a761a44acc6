-- Items read one after another, as a loop does.
use Rattle.std.proofs.Common.{◌≡◌, ℕ, ◌+◌, ◌≤◌, ◌<◌, List, [], ◌∷◌, length, drop, get_or, map, Result, Ok, refl, sym, ap, ◌∙◌}
use Rattle.std.proofs.lemmas.List.{drop_more, drop_all}
use Rattle.serde_json.specs.Data.{Data}
use Rattle.serde_json.specs.View.{view, items_of}
use Rattle.serde_json.specs.declared.value.Value.{Value}
use Rattle.call_json.specs.declared.members.fault.Refusal.{Refusal}
use Rattle.call_json.specs.declared.members.fault.CallFault.{CallFault}
use Rattle.call_json.specs.declared.members.fault.CallFault.TheVariants as faults
use Rattle.call_json.specs.Answers.{◌>>=◌, Fails}
use Rattle.call_json.specs.Lists.{each_in, values_of}

next : (S : Type 0) (step : S → Data → Result S Refusal) (s : S) (vs : List Value) (i : ℕ) (v : Value) → i < length vs → v ≡ get_or vs i v
    → each_in step s (map view (drop i vs)) ≡ step s (view v) >>= λ t. each_in step t (map view (drop (i + 1) vs))
next S step s vs i v lt is =
    let split : drop i vs ≡ v ∷ drop (i + 1) vs = drop_more vs i v lt ∙ ap (λ (w : Value). w ∷ drop (i + 1) vs) (sym is) in
    ap (λ (ws : List Value). each_in step s (map view ws)) split

pub goes_on : (S : Type 0) (step : S → Data → Result S Refusal) (s t : S) (vs : List Value) (i : ℕ) (v : Value) (total : Result S Refusal) → i < length vs → v ≡ get_or vs i v
    → step s (view v) ≡ Ok t → each_in step s (map view (drop i vs)) ≡ total → each_in step t (map view (drop (i + 1) vs)) ≡ total
goes_on S step s t vs i v total lt is h so_far =
    sym (ap (λ (r : Result S Refusal). r >>= λ u. each_in step u (map view (drop (i + 1) vs))) h) ∙ (sym (next S step s vs i v lt is) ∙ so_far)

pub ends : (S : Type 0) (step : S → Data → Result S Refusal) (s : S) (vs : List Value) (i : ℕ) (v : Value) (total : Result S Refusal) (e : CallFault) → i < length vs → v ≡ get_or vs i v
    → Fails e (step s (view v)) → each_in step s (map view (drop i vs)) ≡ total → Fails e total
ends S step s vs i v total faults.OutOfMemory lt is h so_far = tt
ends S step s vs i v total (faults.Refused f) lt is h so_far =
    sym so_far ∙ (next S step s vs i v lt is ∙ ap (λ (r : Result S Refusal). r >>= λ u. each_in step u (map view (drop (i + 1) vs))) h)

pub is_done : (S : Type 0) (step : S → Data → Result S Refusal) (s : S) (vs : List Value) (i : ℕ) (total : Result S Refusal) → length vs ≤ i → each_in step s (map view (drop i vs)) ≡ total → total ≡ Ok s
is_done S step s vs i total le so_far = sym so_far ∙ ap (λ (ws : List Value). each_in step s (map view ws)) (drop_all i vs le)

pub values_of_items : (ds : List Data) → values_of (items_of ds) ≡ ds
values_of_items [] = refl
values_of_items (d ∷ ds) = ap (λ (t : List Data). d ∷ t) (values_of_items ds)
