-- The status updates of one task, and how many of them are acknowledged (Mesos scheduler HTTP API,
-- UPDATE and ACKNOWLEDGE).
use Rattle.std.specs.Prelude.{ℕ, suc, ◌-◌, Bool, not, ◌&&◌, ◌==◌, nat_lt, nat_le, if◌then◌else◌, List, [], ◌∷◌, ◌++◌, length, take, Option, option_map, slice_get}
use Rattle.std.specs.List.{list_any}
use Rattle.names_core.specs.declared.state.TaskState.{TaskState}
use Rattle.names_core.specs.States.{is_terminal}

-- the states in the order in which they came, and how many of the first are acknowledged
pub record Updates : Type 0 where
  pub states : List TaskState
  pub acknowledged : ℕ

-- the task has ended for good
abbrev pub has_ended : Updates → Bool
has_ended u = list_any is_terminal u.states

-- with one more state
abbrev pub pushed : TaskState → Updates → Updates
pushed state u = record { states = u.states ++ state ∷ []; acknowledged = u.acknowledged }

-- the first update that isn't acknowledged, with its number
abbrev pub front : Updates → Option (ℕ × TaskState)
front u = option_map (λ state. (u.acknowledged, state)) (slice_get u.states u.acknowledged)

-- whether the number is that of the first update that isn't acknowledged
abbrev pub is_front : ℕ → Updates → Bool
is_front k u = u.acknowledged == k && nat_lt k (length u.states)

-- with one more acknowledged
abbrev pub acknowledged_one : Updates → Updates
acknowledged_one u = record { states = u.states; acknowledged = suc u.acknowledged }

-- ended, and everything is acknowledged
abbrev pub is_done : Updates → Bool
is_done u = has_ended u && nat_le (length u.states) u.acknowledged

-- a task has at most so many updates
abbrev pub most_updates : ℕ
most_updates = 4096

-- no place is left for another state that isn't terminal: the last one is kept for a terminal state
abbrev pub is_full : Updates → Bool
is_full u = nat_le 4095 (length u.states)

-- no state but the last is terminal
abbrev pub ends_last : List TaskState → Bool
ends_last states = not (list_any is_terminal (take (length states - 1) states))

-- what states and a count may be
abbrev pub are_updates : List TaskState → ℕ → Bool
are_updates states count =
    ends_last states && nat_le count (length states)
    && nat_le (length states) (if list_any is_terminal states then 4096 else 4095)
