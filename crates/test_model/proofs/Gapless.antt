-- Numbers that are a beginning of a task's updates.
use Rattle.std.proofs.Common.{◌≡◌, ℕ, ◌≤◌, List, length}
use Rattle.names_core.specs.declared.state.TaskState.{TaskState}
use Rattle.cluster_safe.specs.Honest.{IsBeginningOf, up_to}

pub beginning : (updates : List TaskState) (ks : List ℕ) → ks ≡ up_to (length ks) → length ks ≤ length updates → IsBeginningOf updates ks
beginning updates ks e few = (length ks, e, few)
