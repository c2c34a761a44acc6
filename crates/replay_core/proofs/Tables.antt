-- One agent, and one task, more.
use Rattle.std.proofs.Common.{◌≡◌, ◌<◌, ℕ, ◌+◌, inl, inr, List, [], ◌∷◌, ◌++◌, get_or, length, take, Option, None, Some, refl, sym, ap, ◌∙◌, arith}
use Rattle.std.specs.List.{flat_map, slice_get}
use Rattle.std.specs.Option.{IfSome}
use Rattle.std.proofs.lemmas.List.{append-nil, take_more}
use Rattle.std.proofs.lemmas.List.Sums.{fold-append}
use Rattle.std.proofs.lemmas.List.Concat.{flat_map-append}
use Rattle.std.proofs.lemmas.List.Elements.{filter-append}
use Rattle.std.proofs.lemmas.Option.{get_or_from_slice_get, slice_get_cases}
use Rattle.messages.specs.declared.record.RecordedTask.{RecordedTask}
use Rattle.quantity.specs.declared.rows.Row.{Row}
use Rattle.quantity.specs.Rows.{plus_rows, raised}
use Rattle.cluster_model.specs.Agents.{live_tasks, task_rows}
use Rattle.replay_core.specs.Tables.{live}

live-append : (ts us : List RecordedTask) → live (ts ++ us) ≡ plus_rows (live ts) (task_rows (live_tasks us))
live-append ts us =
    let tasks : live_tasks (ts ++ us) ≡ live_tasks ts ++ live_tasks us = filter-append _ ts us in
    let rows : task_rows (live_tasks ts ++ live_tasks us) ≡ task_rows (live_tasks ts) ++ task_rows (live_tasks us) = flat_map-append _ (live_tasks ts) (live_tasks us) in
    ap (λ (x : List RecordedTask). plus_rows [] (task_rows x)) tasks ∙ (ap (plus_rows []) rows ∙ fold-append (λ (sum : List Row) (r : Row). raised r.name r.amount sum) [] (task_rows (live_tasks ts)) (task_rows (live_tasks us)))

pub live_more : (ts : List RecordedTask) (i : ℕ) (t : RecordedTask) → i < length ts → t ≡ get_or ts i t → live (take (i + 1) ts) ≡ plus_rows (live (take i ts)) (task_rows (live_tasks (t ∷ [])))
live_more ts i t lt is = ap live (take_more ts i t lt ∙ ap (λ (x : RecordedTask). take i ts ++ x ∷ []) (sym is)) ∙ live-append (take i ts) (t ∷ [])

lines_at : {A : Type 0} (f : A → List ℕ) (xs : List A) (i : ℕ) (text : List ℕ) (found : Option A) → slice_get xs i ≡ found → i < length xs → IfSome found (λ x. text ≡ f x)
    → flat_map f (take (i + 1) xs) ≡ flat_map f (take i xs) ++ text
lines_at f xs i text (Some x) at lt is =
    let whole = get_or_from_slice_get xs i x x at in
    let one : flat_map f (take i xs ++ x ∷ []) ≡ flat_map f (take i xs) ++ f x = flat_map-append f (take i xs) (x ∷ []) ∙ ap (λ (t : List ℕ). flat_map f (take i xs) ++ t) (append-nil (f x)) in
    ap (flat_map f) (take_more xs i x lt ∙ ap (λ y. take i xs ++ y ∷ []) whole) ∙ (one ∙ ap (λ (t : List ℕ). flat_map f (take i xs) ++ t) (sym is))
lines_at f xs i text None at lt is = elim (slice_get_cases xs i).1 [ inl h ↦ absurd (let bad : ⊥ = cc in bad) | inr h ↦ absurd (let bad : ⊥ = omega (arith, lt, h.0) in bad) ]

pub lines_more : {A : Type 0} (f : A → List ℕ) (xs : List A) (i : ℕ) (text : List ℕ) → i < length xs → IfSome (slice_get xs i) (λ x. text ≡ f x) → flat_map f (take (i + 1) xs) ≡ flat_map f (take i xs) ++ text
lines_more f xs i text lt is = lines_at f xs i text (slice_get xs i) refl lt is
