-- What was sent, and the room that a post has for it.
use Rattle.std.specs.Prelude.{◌≤◌, ◌+◌, ℕ}

-- what was sent before is still there, and what was sent since has room
pub record Grows (before now room : ℕ) : Type 0 where
  pub more : before ≤ now
  pub fits : now ≤ before + room
