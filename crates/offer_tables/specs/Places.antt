-- Where an agent, an offer and a booked task stand.
use Rattle.std.specs.Prelude.{◌≡◌, ℕ, zero, suc, true, false, List, [], ◌∷◌}
use Rattle.std.specs.List.{AllByRecursion}
use Rattle.names_core.specs.Ids.{Numbered, same}
use Rattle.offer_tables.specs.Accounts.{Account, is_agent}

-- the agent of this name is in, and its account is the first such at this place
abbrev pub IsAgentAt : List ℕ → ℕ → List Account → Type 0
IsAgentAt name p [] = ⊥
IsAgentAt name zero (a ∷ as_) = is_agent name a ≡ true
IsAgentAt name (suc p) (a ∷ as_) = (is_agent name a ≡ false) × IsAgentAt name p as_

module _ {T : Type 0} (id : T → Numbered) (items : Account → List T) where
  -- no item has this id
  abbrev pub IsNowhere : Numbered → List Account → Type 0
  IsNowhere k as_ = AllByRecursion (λ a. AllByRecursion (λ y. same (id y) k ≡ false) (items a)) as_

  -- an item that has this id is this one, at this place, where the first account is at place `q`
  abbrev pub IsOnlyFrom : ℕ → Numbered → ℕ → T → List Account → Type 0
  IsOnlyFrom q k p x [] = Unit {0}
  IsOnlyFrom q k p x (a ∷ as_) =
      AllByRecursion (λ y. same (id y) k ≡ true → (y ≡ x) × (q ≡ p)) (items a)
      × IsOnlyFrom (suc q) k p x as_
