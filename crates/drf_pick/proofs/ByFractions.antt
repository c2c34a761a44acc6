-- Dominant shares decide who is served first.
use Rattle.std.proofs.Common.{◌≡◌, ℕ, Bool, true, false, ◌||◌, List, refl, sym, ap, ◌∙◌}
use Rattle.quantity.specs.declared.rows.Row.{Row}
use Rattle.cluster_model.specs.Rounds.{Share, stands_at_most_at, stands_first}
use Rattle.drf_shares.specs.Sums.{IsSum}
use Rattle.drf_shares.specs.Dominant.{IsDominant, Part, is_at_most}
use Rattle.drf_shares.proofs.Dominating.{decides}

-- the dominant shares of two
pub record Compared (totals : List Row) (a b : Share) (f g : Part) : Type 0 where
  pub sum : IsSum totals
  pub one : IsDominant totals a.held f
  pub other : IsDominant totals b.held g

pub by_weights : (f : Part) (v v' : ℕ) (g : Part) (w w' : ℕ) → v ≡ v' → w ≡ w' → is_at_most f v g w ≡ is_at_most f v' g w'
by_weights f v v' g w w' e d = ap (λ n. is_at_most f n g w) e ∙ ap (λ n. is_at_most f v' g n) d

forth : (totals : List Row) (a b : Share) (f g : Part) → Compared totals a b f g → stands_at_most_at totals a b ≡ is_at_most f a.weight g b.weight
forth totals a b f g c = sym (decides totals a b f g c.sum.ordered c.sum.positive c.one c.other)

back : (totals : List Row) (a b : Share) (f g : Part) → Compared totals a b f g → stands_at_most_at totals b a ≡ is_at_most g b.weight f a.weight
back totals a b f g c = sym (decides totals b a g f c.sum.ordered c.sum.positive c.other c.one)

pub is_later : (totals : List Row) (a b : Share) (f g : Part) (tie : Bool) → Compared totals a b f g → is_at_most f a.weight g b.weight ≡ false → stands_first totals a b tie ≡ false
is_later totals a b f g tie c above = rw (forth totals a b f g c ∙ above) refl

pub is_first : (totals : List Row) (a b : Share) (f g : Part) (tie : Bool) → Compared totals a b f g → is_at_most f a.weight g b.weight ≡ true → is_at_most g b.weight f a.weight ≡ false → stands_first totals a b tie ≡ true
is_first totals a b f g tie c under above = rw (forth totals a b f g c ∙ under, back totals a b f g c ∙ above) (by_tie tie)
  where
    by_tie : (tie : Bool) → (tie || true) ≡ true
    by_tie true = refl
    by_tie false = refl

pub is_tied : (totals : List Row) (a b : Share) (f g : Part) (tie : Bool) → Compared totals a b f g → is_at_most f a.weight g b.weight ≡ true → is_at_most g b.weight f a.weight ≡ true → stands_first totals a b tie ≡ tie
is_tied totals a b f g tie c under also = rw (forth totals a b f g c ∙ under, back totals a b f g c ∙ also) (by_tie tie)
  where
    by_tie : (tie : Bool) → (tie || false) ≡ tie
    by_tie true = refl
    by_tie false = refl
