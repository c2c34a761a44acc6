-- What holds of sums and of the order.
use Rattle.std.specs.Prelude.{◌≡◌, ℕ, ◌*◌, ◌≤◌, ◌<◌, ◌↔◌, true, false, List, [], fold, Option, None, MatchOption}
use Rattle.std.specs.List.{AllByRecursion}
use Rattle.names_core.specs.Ids.{Numbered}
use Rattle.quantity.specs.declared.rows.Row.{Row}
use Rattle.quantity.specs.Rows.{amount}
use Rattle.quantity.specs.Laws.{SameAmounts}
use Rattle.cluster_model.specs.Rounds.{Share, stands_at_most_at}
use Rattle.drf_pick.specs.Shares.{Tally, Holder}
pub use Rattle.drf_pick.specs.Shares.{AreWeighed}
use Rattle.drf_pick.specs.Least.{Client, IsPick, comes_before, better}
use Rattle.drf_pick.specs.Orders.{Among, IsPreorder}

-- each row has some amount
abbrev pub ArePositive : List Row → Type 0
ArePositive rows = AllByRecursion (λ r. 0 < r.amount) rows

-- amounts of each name, and their weight
pub record Amounts : Type 0 where
  pub of : List ℕ → ℕ
  pub weight : ℕ

abbrev pub amounts_of : Share → Amounts
amounts_of s = record { of = λ name. amount name s.held; weight = s.weight }

-- Stands at most at, of amounts as functions of a name: t are the totals,
-- a what the first holds, b what the second holds
abbrev pub StandsAtMost : (List ℕ → ℕ) → Amounts → Amounts → Type 0
StandsAtMost t a b =
    (i : List ℕ) → 0 < t i → (j : List ℕ) × (0 < t j)
    × (a.of i * (t j * b.weight) ≤ b.of j * (t i * a.weight))

-- the test over rows is the relation over all names
abbrev pub TestIsRelation : Type 0
TestIsRelation = (totals : List Row) (a b : Share) → ArePositive totals
    → (stands_at_most_at totals a b ≡ true)
    ↔ StandsAtMost (λ name. amount name totals) (amounts_of a) (amounts_of b)

-- the same amounts of every name, with the same weight
abbrev pub SameShare : Share → Share → Type 0
SameShare a b = SameAmounts a.held b.held × (a.weight ≡ b.weight)

-- how two shares compare depends on amounts and weights alone
abbrev pub AmountsDecide : Type 0
AmountsDecide =
    (totals : List Row) (a b : Share) (totals' : List Row) (a' b' : Share) → ArePositive totals
    → ArePositive totals'
    → SameAmounts totals totals' → SameShare a a' → SameShare b b'
    → stands_at_most_at totals a b ≡ stands_at_most_at totals' a' b'

-- a share of some weight
pub record Weighed : Type 0 where
  pub share : Share
  pub some : 0 < share.weight

-- the order compares any two of some weight, and is transitive
abbrev pub StandingIsOrder : Type 0
StandingIsOrder =
    (totals : List Row) → ArePositive totals
    → IsPreorder (λ (a b : Weighed). stands_at_most_at totals a.share b.share)

-- one of the frameworks, and none comes before it
pub record IsLeast (t : Tally) (hs : List Holder) (h : Holder) : Type 0 where
  pub there : Among h hs
  pub least : (g : Holder) → Among g hs → comes_before t g h ≡ false

abbrev pub PicksLeast : Type 0
PicksLeast =
    (t : Tally) (hs : List Holder) → ArePositive t.totals → AreWeighed t.roles
    → MatchOption (fold (better t) None hs) (hs ≡ []) (IsLeast t hs)

-- of the same clients by the same shares no two are picked
abbrev pub PickIsOne : Type 0
PickIsOne =
    (t : Tally) (cs : List Client) (one other : Option Numbered) → IsPick t cs one
    → IsPick t cs other → one ≡ other
