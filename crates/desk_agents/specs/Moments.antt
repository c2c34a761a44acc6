-- The moments of a ticker, by what it reads of a clock.
use Rattle.std.specs.Prelude.{◌≡◌, ℕ, ◌-◌, ◌/◌, Option, Some, None, max, min, ⊤}
use Rattle.std.specs.Time.{instant_nanos}
use Rattle.std.specs.declared.time.Instant.{Instant}

-- how a clock is read: the one clock was read so, which left the other
abbrev pub Reading : Type 0 → Type 1
Reading S = S → Option ℕ → S → Type 0

-- the moment after the last one, by what was read of a clock:
-- the greater of the two, and the last one where nothing could be read
abbrev pub moment_after : ℕ → Option ℕ → ℕ
moment_after last None = last
moment_after last (Some seconds) = max last seconds

-- the whole seconds of so many nanoseconds, 2^32 - 1 at most
abbrev pub whole_seconds : ℕ → ℕ
whole_seconds nanos = min (nanos / 1_000_000_000) 4294967295

-- what was read is the whole seconds from a start to some instant
abbrev pub IsSince : Option Instant → Option ℕ → Type 0
IsSince None read = read ≡ None
IsSince (Some start) None = ⊤
IsSince (Some start) (Some seconds) =
    (now : Instant) × (seconds ≡ whole_seconds (instant_nanos now - instant_nanos start))
