-- The model's round is the list of offers of a round.
use Rattle.std.proofs.Common.{◌≡◌, ◌⊎◌, ℕ, Bool, true, false, List, [], ◌∷◌, ◌++◌, fold, Option, Some, None, option_map, inl, inr, refl, sym, ap, ◌∙◌, subst, append_assoc, append-nil}
use Rattle.std.specs.Prelude.{if◌then◌else◌, nat_lt}
use Rattle.names_core.specs.Ids.{Numbered}
use Rattle.quantity.specs.declared.rows.Row.{Row}
use Rattle.names_core.specs.Weights.{RoleWeight}
use Rattle.cluster_model.specs.Ids.{is_empty, last_number}
use Rattle.cluster_model.specs.Sides.{Side}
use Rattle.cluster_model.specs.Events.{MadeOffer}
use Rattle.cluster_model.specs.Masters.{Master}
use Rattle.cluster_model.specs.Rounds as rounds
use Rattle.cluster_model.specs.Rounds.{Client, Round, clients_of, free, pick, totals_of}
use Rattle.master_rounds.specs.Served.{GoesTo}
use Rattle.master_rounds.specs.Laws.{CanBeSummed}
use Rattle.master_rounds.proofs.Serving.{goes_to_picked}
use Rattle.master_rounds.specs.Rounds.{AreOffersOf, IsOffered, IsPassedOver, offer_at}
use Rattle.master_rounds.specs.Visits.{Progress, visits}
use Rattle.master_rounds.proofs.Agreeing.{Agrees, Allocates, visit_alike}
use Rattle.master_rounds.proofs.Bounds.{HaveRows, Within, can_be_summed, more, visited, within_next}

abbrev picked_for : List RoleWeight → Master → Round → List ℕ → List Row → Option Client
picked_for ws m r agent rows = pick ws m.registers.now (totals_of m) (clients_of m) r.made agent rows

picked_goes : (ws : List RoleWeight) (m : Master) (run : ℕ) (r : Round) (p : Progress) (agent : List ℕ) (rows : List Row) → CanBeSummed m r.made → Agrees ws m run r p → GoesTo ws m r.made agent rows (option_map (λ c. c.framework.id) (picked_for ws m r agent rows))
picked_goes ws m run r p agent rows can a = goes_to_picked ws m r.made p.shares agent rows can a.shares

-- what a visit does

abbrev Step : List RoleWeight → Master → Round → Side → Round → Type 0
Step ws m r s after = (IsPassedOver ws m r.made r.next s × (after ≡ r)) ⊎ ((id : Numbered) × IsOffered ws m r.made r.next s id × (after ≡ more r s id))

module _ (ws : List RoleWeight) (m : Master) (run : ℕ) (r : Round) (p : Progress) (s : Side) (can : CanBeSummed m r.made) (a : Agrees ws m run r p) where
  to_one : s.is_open ≡ true → is_empty (free s) ≡ false → nat_lt last_number r.next.n ≡ false → (o : Option Client) → GoesTo ws m r.made s.name (free s) (option_map (λ c. c.framework.id) o) → Step ws m r s (rounds.offers_to r s.name (free s) o)
  to_one opened some left None goes = inl (inr (inr (inr goes)), refl)
  to_one opened some left (Some c) goes = inr (c.framework.id, record { is_open = opened; some = some; left = left; goes = goes }, refl)

  by_number : s.is_open ≡ true → is_empty (free s) ≡ false → (b : Bool) → nat_lt last_number r.next.n ≡ b → Step ws m r s (if b then r else rounds.offers_to r s.name (free s) (picked_for ws m r s.name (free s)))
  by_number opened some true e = inl (inr (inr (inl e)), refl)
  by_number opened some false e = to_one opened some e (picked_for ws m r s.name (free s)) (picked_goes ws m run r p s.name (free s) can a)

  by_free : s.is_open ≡ true → (rows : List Row) → free s ≡ rows → Step ws m r s (rounds.offers_free ws m.registers.now (totals_of m) (clients_of m) r s.name rows)
  by_free opened [] e = inl (inr (inl (ap is_empty e)), refl)
  by_free opened (row ∷ rows) e =
      subst (λ xs. Step ws m r s (if nat_lt last_number r.next.n then r else rounds.offers_to r s.name xs (picked_for ws m r s.name xs))) e
      (by_number opened (ap is_empty e) (nat_lt last_number r.next.n) refl)

  step : Step ws m r s (rounds.visits ws m.registers.now (totals_of m) (clients_of m) r s)
  step = by s.is_open refl
    where
      by : (b : Bool) → s.is_open ≡ b → Step ws m r s (if b then rounds.offers_free ws m.registers.now (totals_of m) (clients_of m) r s.name (free s) else r)
      by true e = by_free e (free s) refl
      by false e = inl (inl e, refl)

abbrev pub Listed : List RoleWeight → Master → Round → List Side → Round → Type 0
Listed ws m r ss after = (gs : List MadeOffer) × (after.made ≡ r.made ++ gs) × AreOffersOf ws m r.made r.next ss gs

next_listed : (ws : List RoleWeight) (m : Master) (r : Round) (s : Side) (ss : List Side) (next after : Round) → Step ws m r s next → Listed ws m next ss after → Listed ws m r (s ∷ ss) after
next_listed ws m r s ss next after (inl passed) k = (k.0, k.1 ∙ ap (λ (x : Round). x.made ++ k.0) passed.1, inl (passed.0, subst (λ (x : Round). AreOffersOf ws m x.made x.next ss k.0) passed.1 k.2))
next_listed ws m r s ss next after (inr to) k = (
  offer_at s r.next to.0 ∷ k.0,
  k.1 ∙ ap (λ (x : Round). x.made ++ k.0) to.2 ∙ append_assoc r.made (offer_at s r.next to.0 ∷ []) k.0,
  inr (to.0, k.0, to.1, refl, subst (λ (x : Round). AreOffersOf ws m x.made x.next ss k.0) to.2 k.2),
)

pub round_listed : (ws : List RoleWeight) (m : Master) (run : ℕ) → Allocates m → (ss : List Side) → HaveRows ss → (r : Round) (p : Progress) → Within m r ss → Agrees ws m run r p
    → Listed ws m r ss (fold (rounds.visits ws m.registers.now (totals_of m) (clients_of m)) r ss)
round_listed ws m run can [] rows r p w a = ([], sym (append-nil r.made), refl)
round_listed ws m run can (s ∷ ss) rows r p w a =
    let after = rounds.visits ws m.registers.now (totals_of m) (clients_of m) r s in
    let next = within_next m r s ss after (visited ws m.registers.now (totals_of m) (clients_of m) r s) w in
    let now = can_be_summed m r (s ∷ ss) can.ordered can.rows can.fits can.few w in
    next_listed ws m r s ss after (fold (rounds.visits ws m.registers.now (totals_of m) (clients_of m)) after ss) (step ws m run r p s now a)
    (round_listed ws m run can ss rows.1 after (visits run m.registers.now m.registers.frameworks p s) next
    (visit_alike ws m run r p s now (can_be_summed m after ss can.ordered can.rows can.fits can.few next) a))
