-- What state a task is in.
use Rattle.std.proofs.Common.{◌≡◌, ℕ, suc, zero, ◌<◌, ◌≤◌, List, [], ◌∷◌, length, get_or, refl, arith}
use Rattle.names_core.specs.declared.state.TaskState.{TaskState}
use Rattle.names_core.specs.declared.state.TaskState.TheVariants.{Staging}
use Rattle.cluster_model.specs.Agents.{state_at}

pub none_first : (ss : List TaskState) → Staging ≡ state_at ss 0
none_first [] = refl
none_first (s ∷ ss) = refl

pub state_within : (ss : List TaskState) (k : ℕ) (d : TaskState) → k < length ss → get_or ss k d ≡ state_at ss (suc k)
state_within [] k d h = absurd (omega arith)
state_within (s ∷ ss) zero d h = refl
state_within (s ∷ ss) (suc k) d h = state_within ss k d (omega arith)

pub state_past : (ss : List TaskState) (k : ℕ) → length ss ≤ k → Staging ≡ state_at ss (suc k)
state_past [] k h = refl
state_past (s ∷ ss) zero h = absurd (omega arith)
state_past (s ∷ ss) (suc k) h = state_past ss k (omega arith)
