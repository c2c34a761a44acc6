-- Configured agents, in byte order of their names.
use Rattle.std.specs.Prelude.{◌≡◌, ℕ, suc, Bool, true, ◌&&◌, nat_le, if◌then◌else◌, List, [], ◌∷◌, length, map, bytes_eq}
use Rattle.std.specs.List.{list_all, list_any}
use Rattle.cluster_model.specs.Ids.{bytes_before}
use Rattle.master_agents.specs.declared.config.ConfiguredAgent.{ConfiguredAgent}
use Rattle.master_agents.specs.declared.config.ConfigFault.{ConfigFault}
use Rattle.master_agents.specs.declared.config.ConfigFault.TheVariants.{NamedTwice, TooMany, OutOfMemory}

-- names in byte order, none twice
abbrev pub are_ordered : List (List ℕ) → Bool
are_ordered [] = true
are_ordered (n ∷ ns) = list_all (bytes_before n) ns && are_ordered ns

abbrev pub names_of : List ConfiguredAgent → List (List ℕ)
names_of agents = map (λ a. a.name) agents

-- as many agents as a configuration has at most
abbrev pub most_agents : ℕ
most_agents = 256

abbrev pub has_name : List ℕ → List ConfiguredAgent → Bool
has_name name agents = list_any (λ a. bytes_eq a.name name) agents

-- an agent in its place by name
abbrev pub with_agent : ConfiguredAgent → List ConfiguredAgent → List ConfiguredAgent
with_agent a [] = a ∷ []
with_agent a (b ∷ bs) = if bytes_before b.name a.name then b ∷ with_agent a bs else a ∷ b ∷ bs

-- how many of the first agents are before a name
abbrev pub place_for : List ℕ → List ConfiguredAgent → ℕ
place_for name [] = 0
place_for name (b ∷ bs) = if bytes_before b.name name then suc (place_for name bs) else 0

-- why an agent isn't configured
abbrev pub IsConfigRefusal : List ℕ → List ConfiguredAgent → ConfigFault → Type 0
IsConfigRefusal name agents NamedTwice = has_name name agents ≡ true
IsConfigRefusal name agents TooMany = nat_le most_agents (length agents) ≡ true
IsConfigRefusal name agents OutOfMemory = Unit {0}
