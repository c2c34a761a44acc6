-- The roster and the book of the same agents, as one list of the master's sides.
use Rattle.std.specs.Prelude.{◌≡◌, ◌<◌, ◌+◌, ◌^◌, ℕ, zero, suc, drop, length, true, false, List, [], ◌∷◌, map, ⊤}
use Rattle.std.specs.List.{AllByRecursion}
use Rattle.cluster_model.specs.Ids.{is_repeated}
use Rattle.cluster_model.specs.Sides.{Side}
use Rattle.offer_tables.specs.Accounts.{Account}
use Rattle.master_agents.specs.Configs.{are_ordered}

-- the side of an agent: its session from the roster; what it owns,
-- its offers and booked tasks from the book
abbrev pub join : Side → Account → Side
join s a = record s { total = a.total; offers = a.offers; booked = a.booked }

abbrev pub joined : List Side → List Account → List Side
joined [] as_ = []
joined (s ∷ ss) [] = []
joined (s ∷ ss) (a ∷ as_) = join s a ∷ joined ss as_

-- they are of the same agents
abbrev pub AreOfOne : List Side → List Account → Type 0
AreOfOne [] [] = ⊤
AreOfOne [] (a ∷ as_) = ⊥
AreOfOne (s ∷ ss) [] = ⊥
AreOfOne (s ∷ ss) (a ∷ as_) = (s.name ≡ a.name) × AreOfOne ss as_

-- the agents' names
abbrev pub side_names : List Side → List (List ℕ)
side_names ss = map (λ s. s.name) ss

-- no two current offers on an agent have one id
abbrev pub AreApart : Account → Type 0
AreApart a = is_repeated (map (λ o. o.id) a.offers) ≡ false

-- the agent is in
abbrev pub IsIn : Account → Type 0
IsIn a = a.is_in ≡ true

-- the account at a place is changed; there is none past the end
abbrev pub at_place : ℕ → (Account → Account) → List Account → List Account
at_place i change [] = []
at_place zero change (a ∷ as_) = change a ∷ as_
at_place (suc i) change (a ∷ as_) = a ∷ at_place i change as_

-- what holds of a roster and a book: they are of the same agents, in byte order of their names,
-- all agents are in, and offers have ids of their own
pub record Fit (ss : List Side) (as_ : List Account) : Type 0 where
  pub one : AreOfOne ss as_
  pub ordered : are_ordered (side_names ss) ≡ true
  pub present : AllByRecursion IsIn as_
  pub apart : AllByRecursion AreApart as_

-- agents that are left, from a place on: the roster's entries, and the book's accounts
pub record AgentsLeft (ss : List Side) (as_ : List Account) (place : ℕ) : Type 0 where
  pub one : AreOfOne ss (drop place as_)
  pub fits : place + length ss < 2 ^ 64
