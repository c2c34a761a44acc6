-- The updates of a task only grow while it stays in its record.
use Rattle.std.specs.Prelude.{◌≡◌, ◌⊎◌, List, [], ◌∷◌, ◌++◌}
use Rattle.std.specs.List.{AllByRecursion as Each}
use Rattle.names_core.specs.declared.state.TaskState.{TaskState}
use Rattle.messages.specs.declared.record.RecordedTask.{RecordedTask}

-- a task of the same job was there, and its updates are a beginning of this task's
abbrev pub Continues : List RecordedTask → RecordedTask → Type 0
Continues [] t = ⊥
Continues (u ∷ us) t =
    ((u.job ≡ t.job) × (more : List TaskState) × (t.updates.states ≡ u.updates.states ++ more))
    ⊎ Continues us t

-- each task continues one that was there, or is new and has no updates
abbrev pub OnlyGrow : List RecordedTask → List RecordedTask → Type 0
OnlyGrow olds news = Each (λ t. Continues olds t ⊎ (t.updates.states ≡ [])) news
