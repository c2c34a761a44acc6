-- A framework that holds nothing comes before those of its role that stand behind it by their ids.
use Rattle.std.proofs.Common.{◌≡◌, ℕ, ◌*◌, ◌≤◌, Bool, true, false, not, ◌&&◌, ◌||◌, nat_le, List, refl, subst, arith}
use Rattle.std.specs.Prelude.{bytes_eq}
use Rattle.std.specs.List.{list_any}
use Rattle.std.proofs.lemmas.Bool.{le-leb}
use Rattle.names_core.specs.Ids.{before}
use Rattle.quantity.specs.declared.rows.Row.{Row}
use Rattle.quantity.specs.Rows.{amount}
use Rattle.cluster_model.specs.Rounds.{Share, is_at_most_at, share, stands_at_most_at}
use Rattle.drf_shares.specs.Dominant.{IsDominant, Part}
use Rattle.drf_shares.specs.Lists.{Among}
use Rattle.drf_shares.proofs.Lists.{all_from, any_from}
use Rattle.drf_shares.proofs.Dominating.{no_factor}
use Rattle.drf_pick.specs.Shares.{Holder, Tally}
use Rattle.drf_pick.specs.Least.{comes_before}

none_of : (totals held : List Row) (p : Part) → IsDominant totals held p → p.amount ≡ 0 → (r : Row) → Among r totals → amount r.name held ≡ 0
none_of totals held p is none r there =
    let most : amount r.name held * p.total ≤ 0 * r.amount = subst (λ n. amount r.name held * p.total ≤ n * r.amount) none (is.most r there) in
    no_factor (amount r.name held) p.total is.some (omega (arith, most))

none_first : (a b : ℕ) → nat_le (0 * a) b ≡ true
none_first a b = le-leb (0 * a) b (omega arith)

at_most_one : (totals held : List Row) (s : Share) (i : Row) → amount i.name held ≡ 0 → is_at_most_at totals (share held 1) s i i ≡ true
at_most_one totals held s i none = rw none (none_first (amount i.name totals * s.weight) (amount i.name s.held * (amount i.name totals * 1)))

pub at_most_each : (totals held : List Row) (p : Part) → IsDominant totals held p → p.amount ≡ 0 → (s : Share) → stands_at_most_at totals (share held 1) s ≡ true
at_most_each totals held p is none s =
    all_from (λ i. list_any (λ j. is_at_most_at totals (share held 1) s i j) totals) totals (λ i there.
    any_from (λ j. is_at_most_at totals (share held 1) s i j) totals i there (at_most_one totals held s i (none_of totals held p is none i there)))

pub comes_no_sooner : (t : Tally) (c d : Holder) (p : Part) → IsDominant t.totals d.held p → p.amount ≡ 0 → bytes_eq c.role d.role ≡ true → before c.framework d.framework ≡ false → comes_before t c d ≡ false
comes_no_sooner t c d p is none alike behind =
    rw (alike, behind, at_most_each t.totals d.held p is none (share c.held 1)) (by (stands_at_most_at t.totals (share c.held 1) (share d.held 1)))
  where
    by : (b : Bool) → (b && (false || not true)) ≡ false
    by true = refl
    by false = refl
