-- What the bytes that a client sends begin with: a head that parses,
-- or what is refused, or nothing more.
use Rattle.std.specs.Prelude.{◌≡◌, ℕ, ◌<◌, ◌≤◌, List, ◌++◌, length, take, Err}
use Rattle.httparse.specs.Grammar.{RequestHead}
use Rattle.http_head.specs.declared.cut.Place.{Place}
use Rattle.http_head.specs.declared.cut.Place.TheVariants.{Front}
use Rattle.http_head.specs.declared.fault.RequestFault.{RequestFault}
use Rattle.http_head.specs.declared.fault.RequestFault.TheVariants.{BadHead}
use Rattle.http_head.specs.Parts.{max_part, LacksPart, IsCut, IsBlank}
use Rattle.http_head.specs.Heads.{IsHead, IsNoHead, head_check}

-- the input is a part that is cut at its end, and then the rest
pub record HasPart (place : Place) (input text rest : List ℕ) : Type 0 where
  pub joined : input ≡ text ++ rest
  pub cut : IsCut place text

-- the part is over its limit
pub record IsOverlong (place : Place) (input : List ℕ) : Type 0 where
  pub more : max_part < length input
  pub uncut : LacksPart place (take max_part input)

-- the input ends in the part, or before it
pub record IsUnended (place : Place) (input : List ℕ) (ended : Type 0) : Type 0 where
  pub at_end : ended
  pub uncut : LacksPart place input
  pub within : length input ≤ max_part

-- the input is a head, and then the rest
pub record HasHead (input text : List ℕ) (h : RequestHead) (rest : List ℕ) : Type 0 where
  pub part : HasPart Front input text rest
  pub is : IsHead text h

-- what is at the front of the input is refused
pub data RefusesHead (input : List ℕ) (ended : Type 0) (fault : RequestFault) : Type 0 where
  overlong : fault ≡ BadHead → IsOverlong Front input → RefusesHead input ended fault
  unended : fault ≡ BadHead → IsUnended Front input ended → ¬ (IsBlank input)
      → RefusesHead input ended fault
  unparsed : fault ≡ BadHead → (text rest : List ℕ) → HasPart Front input text rest → IsNoHead text
      → RefusesHead input ended fault
  unfit : (text : List ℕ) (h : RequestHead) (rest : List ℕ) → HasHead input text h rest
      → head_check h ≡ Err fault → RefusesHead input ended fault

-- nothing follows but whole empty lines
pub record IsOver (input : List ℕ) (ended : Type 0) : Type 0 where
  pub unended : IsUnended Front input ended
  pub blank : IsBlank input
