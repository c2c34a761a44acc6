-- Numbered commands on a link from one sender to one receiver.
use Rattle.std.specs.Prelude.{◌≡◌, ◌≤◌, ℕ, suc, ◌+◌, ◌-◌, Bool, ◌&&◌, ◌==◌, nat_lt, nat_le, if◌then◌else◌, List, [], ◌∷◌, ◌++◌, length, take, drop, slice_get, Some}

-- what the sender knows: the commands issued and not known to be applied, in order,
-- and how many are known to be applied
pub record Link (C : Type 0) : Type 0 where
  pub waiting : List C
  pub known : ℕ

-- the greatest number of a command
abbrev pub last_number : ℕ
last_number = 4294967295

-- how many commands were ever issued
abbrev pub issued_count : {C : Type 0} → Link C → ℕ
issued_count l = l.known + length l.waiting

-- no number is left for another command
abbrev pub is_spent : {C : Type 0} → Link C → Bool
is_spent l = nat_le last_number (issued_count l)

-- with one more command, whose number is the next
abbrev pub issued : {C : Type 0} → C → Link C → Link C
issued command l = record { waiting = l.waiting ++ command ∷ []; known = l.known }

-- whether a count of applied commands is above the known one, and not over what was issued
abbrev pub is_news : {C : Type 0} → ℕ → Link C → Bool
is_news count l = nat_lt l.known count && nat_le count (issued_count l)

-- the commands that are applied by this count and weren't known to be
abbrev pub newly_applied : {C : Type 0} → ℕ → Link C → List C
newly_applied count l = if is_news count l then take (count - l.known) l.waiting else []

-- once the count is known
abbrev pub applied : {C : Type 0} → ℕ → Link C → Link C
applied count l =
    if is_news count l then record { waiting = drop (count - l.known) l.waiting; known = count }
    else l

-- all commands that a sender has issued,
-- of which it knows the first to be applied and the others wait
pub record AreIssued {C : Type 0} (all : List C) (l : Link C) : Type 0 where
  pub known : l.known ≤ length all
  pub waiting : l.waiting ≡ drop l.known all

-- a command that is sent with its number: the one that was issued under it
abbrev pub IsSent : {C : Type 0} → List C → ℕ × C → Type 0
IsSent all m = (place : ℕ) × (m.0 ≡ suc place) × (slice_get all place ≡ Some m.1)

-- the commands that a receiver takes which has taken so many: of all that comes,
-- in any order and any number of times, each next one
abbrev pub taken : {C : Type 0} → ℕ → List (ℕ × C) → List C
taken count [] = []
taken count (m ∷ ms) = if m.0 == suc count then m.1 ∷ taken (suc count) ms else taken count ms
