-- A list that a loop goes through, taking out what isn't kept.
use Rattle.std.proofs.Common.{◌≡◌, ℕ, ◌+◌, ◌<◌, Bool, true, false, List, [], ◌∷◌, ◌++◌, length, take, drop, get_or, filter, bytes_eq, zero, ◌≤◌, refl, sym, ap, ◌∙◌, arith, suc, add-one}
use Rattle.std.specs.List.{remove}
use Rattle.messages.specs.declared.framework.Filter.{Filter}
use Rattle.cluster_model.specs.Masters.{drop_oldest}
use Rattle.std.proofs.lemmas.List.{drop_more, take_more, append_assoc, take_at, drop_at, length-take-le}

pub kept : {X : Type 0} (p : X → Bool) (xs : List X) (i : ℕ) (d : X) → i < length xs → p (get_or xs i d) ≡ true
    → take (i + 1) xs ++ filter p (drop (i + 1) xs) ≡ take i xs ++ filter p (drop i xs)
kept {X} p xs i d lt is =
    let one : drop i xs ≡ get_or xs i d ∷ drop (i + 1) xs = drop_more xs i d lt in
    let two : filter p (get_or xs i d ∷ drop (i + 1) xs) ≡ get_or xs i d ∷ filter p (drop (i + 1) xs) = rw is refl in
    let three : take (i + 1) xs ≡ take i xs ++ get_or xs i d ∷ [] = take_more xs i d lt in
    rw (one, two, three) (append_assoc (take i xs) (get_or xs i d ∷ []) (filter p (drop (i + 1) xs)))

pub taken_out : {X : Type 0} (p : X → Bool) (xs : List X) (i : ℕ) (d : X) → i < length xs → p (get_or xs i d) ≡ false
    → take i (remove xs i) ++ filter p (drop i (remove xs i)) ≡ take i xs ++ filter p (drop i xs)
taken_out {X} p xs i d lt is =
    let one : drop i xs ≡ get_or xs i d ∷ drop (i + 1) xs = drop_more xs i d lt in
    let two : filter p (get_or xs i d ∷ drop (i + 1) xs) ≡ filter p (drop (i + 1) xs) = rw is refl in
    let short : length (take i xs) ≡ i = length-take-le i xs (omega arith) in
    let front : take i (remove xs i) ≡ take i xs = take_at (take i xs) (drop (suc i) xs) i short in
    let back : drop i (remove xs i) ≡ drop (i + 1) xs = drop_at (take i xs) (drop (suc i) xs) i short ∙ ap (λ n. drop n xs) (sym (add-one i)) in
    rw (one, two, front, back) refl

-- the place where one was taken out is still a place, or the end
pub after_removed : {X : Type 0} (xs : List X) (i : ℕ) → i < length xs → i ≤ length (remove xs i)
after_removed [] i lt = absurd (omega arith)
after_removed (x ∷ xs) zero lt = omega arith
after_removed (x ∷ xs) (suc i) lt = let rest : i ≤ length (remove xs i) = after_removed xs i (omega arith) in omega arith

-- the first filter on an agent, taken out
pub dropped : (agent : List ℕ) (xs : List Filter) (i : ℕ) (d : Filter) → i < length xs → bytes_eq (get_or xs i d).agent agent ≡ true
    → take i xs ++ drop_oldest agent (drop i xs) ≡ drop_oldest agent xs → remove xs i ≡ drop_oldest agent xs
dropped agent xs i d lt is e =
    let one : drop i xs ≡ get_or xs i d ∷ drop (i + 1) xs = drop_more xs i d lt in
    let two : drop_oldest agent (get_or xs i d ∷ drop (i + 1) xs) ≡ drop (i + 1) xs = rw is refl in
    let three : remove xs i ≡ take i xs ++ drop_oldest agent (drop i xs) = rw (one, two) (ap (λ n. take i xs ++ drop n xs) (sym (add-one i))) in
    three ∙ e
