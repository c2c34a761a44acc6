-- Numbers from 1.
use Rattle.std.specs.Prelude.{◌≡◌, ◌<◌, ◌≤◌, ℕ, ◌-◌, Bool, true, false, ◌&&◌, nat_lt, nat_le, List, length, take}
use Rattle.std.specs.List.{slice_get}
use Rattle.std.proofs.Common.{inl, inr, refl}
use Rattle.std.proofs.lemmas.Option.{slice_get_cases}
use Rattle.cluster_channels.specs.Queueing.{Item, hands_out, is_next}
use Rattle.std.proofs.Common.{arith}
use Rattle.std.proofs.lemmas.Bool.Decides.{nat_tests}

-- one of so many numbers, from 1
abbrev pub is_number : ℕ → ℕ → Bool
is_number count n = nat_lt 0 n && nat_le n count

pub numbers_are_from_one : (count n : ℕ) → is_number count n ≡ true → (0 < n) × (n ≤ count)
numbers_are_from_one count n e =
    let first : 0 < n = grind (arith, nat_tests) in
    let last : n ≤ count = grind (arith, nat_tests) in
    (first, last)

next_is_there : (items before : List Item) (i : ℕ) → is_next before (slice_get items i) ≡ true
    → i < length items
next_is_there items before i e =
    elim (slice_get_cases items i).1 [
      | inl h ↦ h.1
      | inr h ↦ let no : is_next before (slice_get items i)
          ≡ false = rw h.1 refl in absurd (let bad : ⊥ = cc in bad)
    ]

and_parts : (a b : Bool) → (a && b) ≡ true → (a ≡ true) × (b ≡ true)
and_parts true b e = (refl, e)
and_parts false b e = cc

pub handed_out_was_put : (items : List Item) (n : ℕ) → hands_out items n ≡ true → (0 < n)
    × (n ≤ length items)
handed_out_was_put items n e =
    let parts = and_parts (nat_lt 0 n) (is_next (take (n - 1) items) (slice_get items (n - 1))) e in
    let some : nat_lt 0 n ≡ true = parts.0 in
    let first : 0 < n = grind (arith, nat_tests) in
    let last : n - 1 < length items = next_is_there items (take (n - 1) items) (n - 1) parts.1 in
    (first, omega (arith, first, last))
