-- A draft, with the agent that it was prepared for.
use Rattle.std.specs.Prelude.{ℕ, List, ◌++◌, take, drop}
use Rattle.cluster_model.specs.Agents.{Agent, Draft}

pub record Prepared : Type 0 where
  pub before : Agent
  pub draft : Draft

-- a list with its part between two places replaced
abbrev pub spliced : {T : Type 0} → ℕ → ℕ → List T → List T → List T
spliced from to ts part = take from ts ++ (part ++ drop to ts)
