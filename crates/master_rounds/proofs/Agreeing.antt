-- The round of the code is the round of the model.
use Rattle.std.proofs.Common.{◌≡◌, ℕ, zero, suc, Bool, true, false, List, [], ◌∷◌, ◌++◌, map, fold, length, take, Option, Some, None, option_map, refl, sym, ap, ◌∙◌, subst, append_assoc}
use Rattle.std.specs.Prelude.{if◌then◌else◌, nat_lt, ◌≤◌}
use Rattle.std.specs.List.{find}
use Rattle.names_core.specs.Ids.{Numbered}
use Rattle.quantity.specs.declared.rows.Row.{Row}
use Rattle.cluster_model.specs.Ids.{following, last_number}
use Rattle.cluster_model.specs.Sides.{Side}
use Rattle.cluster_model.specs.Events.{MadeOffer, offer_of}
use Rattle.cluster_model.specs.Masters.{Master}
use Rattle.cluster_model.specs.Rounds as rounds
use Rattle.names_core.specs.Weights.{RoleWeight}
use Rattle.cluster_model.specs.Rounds.{Client, Round, clients_of, free, pick, totals_of}
use Rattle.master_state.specs.Frameworks.{are_ordered}
use Rattle.drf_pick.specs.declared.holder.Holder.{Holder}
use Rattle.drf_pick.specs.declared.holder.RoleSum.{RoleSum}
use Rattle.drf_pick.specs.Shares.{AreWeighed, CanHold, Tally, given_roles, is_holder, role_holding}
use Rattle.drf_pick.proofs.Weights.{changed_weighed}
use Rattle.drf_pick.proofs.HeldRows.{can_hold}
use Rattle.roster.specs.Places.{value_at}
use Rattle.master_agents.specs.Free.{open_part}
use Rattle.cluster_model.specs.Fits.{AllFitTotals, most_sides}
use Rattle.drf_pick.specs.declared.holder.Client as drf
use Rattle.drf_pick.specs.Allocations.{allocated}
use Rattle.drf_pick.specs.Shown.{TallyShows}
use Rattle.drf_pick.proofs.Shown.{tally_more, weights_stay}
use Rattle.master_state.specs.LastRound as frameworks
use Rattle.master_rounds.specs.Allocations.{ShowRound, allocations_of, allocations_with, made_allocation}
use Rattle.master_rounds.proofs.Registered.{clients_once}
use Rattle.master_rounds.specs.Laws.{CanBeSummed}
use Rattle.master_rounds.specs.Picks.{picked}
use Rattle.master_rounds.proofs.Picking.{picks_alike}
use Rattle.master_rounds.specs.Visits.{HasRoom, Progress, goes_to, offers_free, visits, visits_part}
use Rattle.master_rounds.proofs.Bounds.{HaveRows, Within, can_be_summed, free_adds_up, visited, within_next}

pub record Agrees (ws : List RoleWeight) (m : Master) (run : ℕ) (r : Round) (p : Progress) : Type 0 where
  pub made : p.made ≡ map offer_of r.made
  pub next : r.next ≡ record { run = run; n = p.next }
  pub shares : ShowRound ws m.sides m.registers.frameworks r.made p.shares

offers_more : (made : List MadeOffer) (g : MadeOffer) → map offer_of made ++ offer_of g ∷ [] ≡ map offer_of (made ++ g ∷ [])
offers_more [] g = refl
offers_more (h ∷ made) g = ap (λ os. offer_of h ∷ os) (offers_more made g)

made_append : (made : List MadeOffer) (g : MadeOffer) → map made_allocation (made ++ g ∷ []) ≡ map made_allocation made ++ made_allocation g ∷ []
made_append [] g = refl
made_append (h ∷ made) g = ap (λ as_. made_allocation h ∷ as_) (made_append made g)

with_one : (ss : List Side) (made : List MadeOffer) (g : MadeOffer) → allocations_with ss made ++ made_allocation g ∷ [] ≡ allocations_with ss (made ++ g ∷ [])
with_one ss made g = append_assoc (allocations_of ss) (map made_allocation made) (made_allocation g ∷ []) ∙ ap (λ as_. allocations_of ss ++ as_) (sym (made_append made g))

given_weighed : (rows : List Row) (o : Option Holder) (rs : List RoleSum) → AreWeighed rs → AreWeighed (given_roles rows o rs)
given_weighed rows None rs w = w
given_weighed rows (Some h) rs w = changed_weighed h.role (role_holding rows) (λ r some. some) rs w

-- one offer more is shown once it is given
shown_more : (ws : List RoleWeight) (m : Master) (made : List MadeOffer) (g : MadeOffer) (t : Tally) → CanBeSummed m (made ++ g ∷ []) → ShowRound ws m.sides m.registers.frameworks made t → ShowRound ws m.sides m.registers.frameworks (made ++ g ∷ []) (allocated t (made_allocation g))
shown_more ws m made g t can s = record {
  totals = s.totals;
  positive = s.positive;
  weighed = given_weighed g.offer.resources (find (is_holder g.offer.framework) t.holders) t.roles s.weighed;
  shown = subst (λ as_. TallyShows as_ cs (allocated t (made_allocation g))) (with_one m.sides made g)
      (tally_more (allocations_with m.sides made) (made_allocation g) cs t (clients_once m.registers.frameworks can.ordered) s.shown);
  weights = weights_stay ws (made_allocation g) (find (is_holder g.offer.framework) t.holders) t.roles s.weights;
}
  where
    cs : List drf.Client
    cs = frameworks.clients_of m.registers.frameworks

abbrev made_for : List ℕ → List Row → Numbered → Numbered → MadeOffer
made_for agent rows id f = record { agent = agent; offer = record { id = id; framework = f; resources = rows } }

goes_alike : (ws : List RoleWeight) (m : Master) (run : ℕ) (r : Round) (p : Progress) (agent : List ℕ) (rows : List Row) (o : Option Client) → CanBeSummed m (rounds.offers_to r agent rows o).made → Agrees ws m run r p → Agrees ws m run (rounds.offers_to r agent rows o) (goes_to run agent rows p (option_map (λ c. c.framework.id) o))
goes_alike ws m run r p agent rows None after a = a
goes_alike ws m run r p agent rows (Some c) after a = record {
  made = ap (λ os. os ++ offer_of (made_for agent rows (record { run = run; n = p.next }) c.framework.id) ∷ []) a.made
      ∙ ap (λ id. map offer_of r.made ++ offer_of (made_for agent rows id c.framework.id) ∷ []) (sym a.next)
      ∙ offers_more r.made (made_for agent rows r.next c.framework.id);
  next = ap following a.next;
  shares = shown_more ws m r.made (made_for agent rows r.next c.framework.id) p.shares after a.shares;
}

abbrev picked_for : List RoleWeight → Master → Round → List ℕ → List Row → Option Client
picked_for ws m r agent rows = pick ws m.registers.now (totals_of m) (clients_of m) r.made agent rows

free_alike : (ws : List RoleWeight) (m : Master) (run : ℕ) (r : Round) (p : Progress) (agent : List ℕ) (rows : List Row) → CanBeSummed m r.made → CanBeSummed m (rounds.offers_free ws m.registers.now (totals_of m) (clients_of m) r agent rows).made → Agrees ws m run r p
    → Agrees ws m run (rounds.offers_free ws m.registers.now (totals_of m) (clients_of m) r agent rows) (offers_free run m.registers.now m.registers.frameworks p agent rows)
free_alike ws m run r p agent [] can after a = a
free_alike ws m run r p agent (row ∷ rows) can after a =
    by (nat_lt last_number r.next.n) after (ap (λ (id : Numbered). nat_lt last_number id.n) a.next)
  where
    same_pick : picked m.registers.now agent (row ∷ rows) p.shares m.registers.frameworks ≡ option_map (λ c. c.framework.id) (picked_for ws m r agent (row ∷ rows))
    same_pick = picks_alike ws m r.made p.shares agent (row ∷ rows) can a.shares

    by : (b : Bool) → CanBeSummed m (if b then r else rounds.offers_to r agent (row ∷ rows) (picked_for ws m r agent (row ∷ rows))).made → b ≡ nat_lt last_number p.next
        → Agrees ws m run (if b then r else rounds.offers_to r agent (row ∷ rows) (picked_for ws m r agent (row ∷ rows)))
        (if nat_lt last_number p.next then p else goes_to run agent (row ∷ rows) p (picked m.registers.now agent (row ∷ rows) p.shares m.registers.frameworks))
    by true full e = subst (λ b. Agrees ws m run r (if b then p else goes_to run agent (row ∷ rows) p (picked m.registers.now agent (row ∷ rows) p.shares m.registers.frameworks))) e a
    by false full e =
        subst (λ b. Agrees ws m run (rounds.offers_to r agent (row ∷ rows) (picked_for ws m r agent (row ∷ rows))) (if b then p else goes_to run agent (row ∷ rows) p (picked m.registers.now agent (row ∷ rows) p.shares m.registers.frameworks))) e
        (subst (λ o. Agrees ws m run (rounds.offers_to r agent (row ∷ rows) (picked_for ws m r agent (row ∷ rows))) (goes_to run agent (row ∷ rows) p o)) (sym same_pick)
        (goes_alike ws m run r p agent (row ∷ rows) (picked_for ws m r agent (row ∷ rows)) full a))

pub visit_alike : (ws : List RoleWeight) (m : Master) (run : ℕ) (r : Round) (p : Progress) (s : Side) → CanBeSummed m r.made → CanBeSummed m (rounds.visits ws m.registers.now (totals_of m) (clients_of m) r s).made → Agrees ws m run r p
    → Agrees ws m run (rounds.visits ws m.registers.now (totals_of m) (clients_of m) r s) (visits run m.registers.now m.registers.frameworks p s)
visit_alike ws m run r p s can after a = by s.is_open after
  where
    by : (b : Bool) → CanBeSummed m (if b then rounds.offers_free ws m.registers.now (totals_of m) (clients_of m) r s.name (free s) else r).made
        → Agrees ws m run (if b then rounds.offers_free ws m.registers.now (totals_of m) (clients_of m) r s.name (free s) else r) (visits_part run m.registers.now m.registers.frameworks p (if b then Some (s.name, free s) else None))
    by true full = free_alike ws m run r p s.name (free s) can full a
    by false full = a

-- what is known of a master when it allocates
pub record Allocates (m : Master) : Type 0 where
  pub ordered : are_ordered m.registers.frameworks ≡ true
  pub rows : HaveRows m.sides
  pub fits : AllFitTotals m.sides
  pub few : length m.sides ≤ most_sides

pub rounds_alike : (ws : List RoleWeight) (m : Master) (run : ℕ) → Allocates m → (ss : List Side) → HaveRows ss → (r : Round) (p : Progress) → Within m r ss → Agrees ws m run r p
    → Agrees ws m run (fold (rounds.visits ws m.registers.now (totals_of m) (clients_of m)) r ss) (fold (visits run m.registers.now m.registers.frameworks) p ss)
rounds_alike ws m run can [] rows r p w a = a
rounds_alike ws m run can (s ∷ ss) rows r p w a =
    let after = rounds.visits ws m.registers.now (totals_of m) (clients_of m) r s in
    let next = within_next m r s ss after (visited ws m.registers.now (totals_of m) (clients_of m) r s) w in
    rounds_alike ws m run can ss rows.1 after (visits run m.registers.now m.registers.frameworks p s) next
    (visit_alike ws m run r p s (can_be_summed m r (s ∷ ss) can.ordered can.rows can.fits can.few w) (can_be_summed m after ss can.ordered can.rows can.fits can.few next) a)

-- what is free on the agent that comes next can be held

room_here : (ws : List RoleWeight) (m : Master) (run : ℕ) → Allocates m → (s : Side) (ss : List Side) (r : Round) (p : Progress) → Within m r (s ∷ ss) → Agrees ws m run r p → HasRoom (open_part s) p.shares
room_here ws m run can s ss r p w a = by s.is_open
  where
    room : CanHold (free s) p.shares
    room = can_hold (allocations_with m.sides r.made) (free s) (frameworks.clients_of m.registers.frameworks) p.shares (clients_once m.registers.frameworks can.ordered) a.shares.shown (free_adds_up m r s ss can.rows can.fits can.few w)

    by : (b : Bool) → HasRoom (if b then Some (s.name, free s) else None) p.shares
    by true = room
    by false = tt

pub keeps_room : (ws : List RoleWeight) (m : Master) (run : ℕ) → Allocates m → (ss : List Side) → HaveRows ss → (r : Round) (p : Progress) → Within m r ss → Agrees ws m run r p → (i : ℕ)
    → HasRoom (value_at i open_part None ss) (fold (visits run m.registers.now m.registers.frameworks) p (take i ss)).shares
keeps_room ws m run can [] rows r p w a i = tt
keeps_room ws m run can (s ∷ ss) rows r p w a zero = room_here ws m run can s ss r p w a
keeps_room ws m run can (s ∷ ss) rows r p w a (suc i) =
    let after = rounds.visits ws m.registers.now (totals_of m) (clients_of m) r s in
    let next = within_next m r s ss after (visited ws m.registers.now (totals_of m) (clients_of m) r s) w in
    keeps_room ws m run can ss rows.1 after (visits run m.registers.now m.registers.frameworks p s) next
    (visit_alike ws m run r p s (can_be_summed m r (s ∷ ss) can.ordered can.rows can.fits can.few w) (can_be_summed m after ss can.ordered can.rows can.fits can.few next) a) i
