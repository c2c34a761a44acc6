-- Receipts that are visited by their numbers.
use Rattle.std.specs.Prelude.{◌≡◌, ℕ, ◌+◌, ◌-◌, ◌<◌, List, [], ◌∷◌, Some, slice_get, ⊤}
use Rattle.desk_core.specs.declared.desk.pass.Receipt.{Receipt}

-- a receipt is of an entry of the seat, where the first entry of all has number b + 1
abbrev pub IsOfSeat : {E : Type 0} → ℕ → ℕ → List ℕ → List E → Receipt E → Type 0
IsOfSeat seat b ss es r =
    (slice_get ss (r.number - (b + 1)) ≡ Some seat)
    × (slice_get es (r.number - (b + 1)) ≡ Some r.entry)

-- the receipts are of entries of the seat, whose numbers rise from above low
abbrev pub Rises : {E : Type 0} → ℕ → ℕ → List ℕ → List E → ℕ → List (Receipt E) → Type 0
Rises seat b ss es low [] = ⊤
Rises seat b ss es low (r ∷ rs) =
    (low < r.number) × IsOfSeat seat b ss es r × Rises seat b ss es r.number rs
