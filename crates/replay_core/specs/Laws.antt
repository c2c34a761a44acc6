-- What holds of every replay.
use Rattle.std.proofs.Common.{◌≡◌, ◌<◌, ℕ, ◌+◌, ◌⊎◌, inl, inr, true, false, not, Bool, List, [], length, take, Option, None, Some, is_some, refl, ap, nat_lt, arith}
use Rattle.std.specs.Prelude.{nat_le}
use Rattle.std.proofs.lemmas.Bool.Decides.{leb_tells, nat_tests}
use Rattle.std.proofs.lemmas.List.{length-take, take_all}
use Rattle.frame_record.specs.Texts.{kept, longest}
use Rattle.step_text.specs.Configs.{read_config}
use Rattle.step_text.specs.Lines.{longest_line, read_step}
use Rattle.cluster_core.specs.Stories.{Story}
use Rattle.replay_core.specs.Replays.{Replay, after, by_line, goes_on, is_passed_over, answer_to, answered_text}

-- a line is kept whole, or it is too long and what is kept of it too
whole_or_long : (n : ℕ) (line : List ℕ) → (take (n + 1) line ≡ line)
    ⊎ ((n < length line) × (n < length (take (n + 1) line)))
whole_or_long n line = elim (leb_tells (length line) n) [
  | inl h ↦ inl (take_all (n + 1) line (omega (arith, h.1)))
  | inr h ↦ inr (h.1, omega (arith, h.1, length-take (n + 1) line))
]

kept_or_long : (line : List ℕ) → (kept line ≡ line)
    ⊎ ((longest_line < length line) × (longest_line < length (kept line)))
unfolding kept
kept_or_long line = whole_or_long longest line

is_long : (line : List ℕ) → longest_line < length line → nat_lt longest_line (length line) ≡ true
is_long line lt = grind (arith, nat_tests)

is_not_short : (line : List ℕ) → longest_line < length line
    → nat_le (length line) longest_line ≡ false
is_not_short line lt = grind (arith, nat_tests)

long_config : (line : List ℕ) → longest_line < length line → (other : List ℕ)
    → longest_line < length other → read_config line ≡ read_config other
long_config line lt other lt' = rw (is_long line lt, is_long other lt') refl

long_step : (line : List ℕ) → longest_line < length line → (other : List ℕ)
    → longest_line < length other → read_step line ≡ read_step other
long_step line lt other lt' = rw (is_long line lt, is_long other lt') refl

long_passed : (line : List ℕ) → longest_line < length line → (other : List ℕ)
    → longest_line < length other → is_passed_over line ≡ is_passed_over other
long_passed line lt other lt' = rw (is_not_short line lt, is_not_short other lt') refl

by_kept : (r : Replay) (s : Option Story) (line : List ℕ)
    → by_line r s (kept line) ≡ by_line r s line
by_kept r None line =
    elim (kept_or_long line)
    [ inl e ↦ ap (by_line r None) e | inr h ↦ rw (long_config (kept line) h.1 line h.0) refl ]
by_kept r (Some s) line =
    elim (kept_or_long line) [
      | inl e ↦ ap (by_line r (Some s)) e
      | inr h ↦ rw
          (long_passed (kept line) h.1 line h.0, long_step (kept line) h.1 line h.0) refl
    ]

answer_kept : (r : Replay) (line : List ℕ) → answer_to r (kept line) ≡ answer_to r line
unfolding answer_to
answer_kept r line = rw (by_kept r r.story line) refl

pub enough : (r : Replay) (line : List ℕ) → (answered_text r (kept line) ≡ answered_text r line)
    × (after r (kept line) ≡ after r line)
enough r line = (ap (λ t. t.text) (answer_kept r line), ap (λ t. t.after) (answer_kept r line))

stopped : (b : Bool) → not b ≡ false → b ≡ true
stopped true e = refl
stopped false e = cc

answer_stopped : (r : Replay) (line : List ℕ) → is_some r.fault ≡ true
    → answer_to r line ≡ record { text = []; after = r }
unfolding answer_to
answer_stopped r line e = rw e refl

pub stays : (r : Replay) (line : List ℕ) → goes_on r ≡ false → (answered_text r line ≡ [])
    × (after r line ≡ r)
stays r line e = let is =
    answer_stopped r line (stopped (is_some r.fault) e) in
    (ap (λ t. t.text) is, ap (λ t. t.after) is)
