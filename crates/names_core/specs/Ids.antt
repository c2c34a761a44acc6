-- Ids as texts: a letter, a run, a dash and a number, both in decimal.
use Rattle.std.specs.Prelude.{ℕ, ◌^◌, ◌<◌, ◌&&◌, ◌||◌, ◌==◌, Bool, List, ◌∷◌, ◌++◌, Option, None, Some, option_map, option_and_then, slice_index, drop, nat_lt, nat_le, if◌then◌else◌, decimal}
use Rattle.std.specs.List.{before_first, after_first}
use Rattle.std.specs.Str.{all_ascii_digits}
use Rattle.std.specs.Str.Parse.{digits_value}

-- a number that is counted in each run
pub record Numbered : Type 0 where
  pub run : ℕ
  pub n : ℕ

pub record InRange (i : Numbered) : Type 0 where
  pub run_some : 0 < i.run
  pub run_fits : i.run < 2 ^ 16
  pub n_some : 0 < i.n
  pub n_fits : i.n < 2 ^ 32

abbrev pub same : Numbered → Numbered → Bool
same a b = a.n == b.n && a.run == b.run

-- the order of ids: by run, then by number
abbrev pub before : Numbered → Numbered → Bool
before a b = nat_lt a.run b.run || (a.run == b.run && nat_lt a.n b.n)

-- the one text of an id
abbrev pub id_text : ℕ → Numbered → List ℕ
id_text letter i = letter ∷ (decimal i.run ++ 45 ∷ decimal i.n)

-- a number from 1 to below the bound, in digits of which the first isn't 0
unfoldable pub number_of : ℕ → List ℕ → Option ℕ
number_of bound ds =
    if nat_le 49 (slice_index ds 0) && all_ascii_digits ds && nat_lt (digits_value 10 ds) bound
    then Some (digits_value 10 ds) else None

abbrev pub is_dash : ℕ → Bool
is_dash b = b == 45

-- the id that a text is
unfoldable pub id_of : ℕ → List ℕ → Option Numbered
id_of letter text =
    if slice_index text 0 == letter
    then option_and_then (λ r. option_map (λ n. record { run = r; n = n })
    (number_of (2 ^ 32) (after_first is_dash (drop 1 text))))
    (number_of (2 ^ 16) (before_first is_dash (drop 1 text)))
    else None
