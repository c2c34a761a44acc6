-- The shares of a round show what is allocated on the agents once its offers are taken back.
use Rattle.std.proofs.Common.{◌≡◌, List, [], ◌∷◌, ◌++◌, map, refl, sym, ap, ◌∙◌, subst, arith, append-nil}
use Rattle.quantity.specs.Rows.{amount}
use Rattle.quantity.specs.Laws.{SameAmounts}
use Rattle.quantity.proofs.Amounts.{amount-append}
use Rattle.messages.specs.declared.framework.Framework.{Framework}
use Rattle.names_core.specs.Weights.{RoleWeight}
use Rattle.cluster_model.specs.Events.{MadeOffer, offer_of}
use Rattle.drf_pick.specs.Shares.{Tally}
use Rattle.drf_pick.specs.declared.counted.Allocation.{Allocation}
use Rattle.drf_pick.specs.declared.counted.CountedShares.{CountedShares}
use Rattle.drf_pick.specs.Allocations.{rows_to}
use Rattle.drf_pick.specs.Shown.{SameAllocations, TallyShows, all_found, all_owned, counted_of}
use Rattle.drf_pick.proofs.AllocationRows.{to-append}
use Rattle.drf_pick.proofs.Counting.{counted_all}
use Rattle.drf_pick.proofs.Less.{tally_alike}
use Rattle.master_state.specs.LastRound.{clients_of}
use Rattle.master_rounds.specs.Allocations.{BeginRound, ShowRound, allocations_of, allocations_with, made_allocation}
use Rattle.master_state.specs.declared.state.State.{State}
use Rattle.master_rounds.specs.Visits.{Progress, allocation_by, round_with}
use Rattle.master_state.specs.Works.{master_of}
use Rattle.master_rounds.proofs.Agreeing.{Agrees}
use Rattle.master_rounds.proofs.SendingAll.{Holds, agreed, round_after}

beside : (gs hs ks : List Allocation) → SameAllocations gs hs → SameAllocations (gs ++ ks) (hs ++ ks)
beside gs hs ks e framework name =
    omega (arith, e framework name, ap (amount name) (to-append framework gs ks), amount-append name (rows_to framework gs) (rows_to framework ks), ap (amount name) (to-append framework hs ks), amount-append name (rows_to framework hs) (rows_to framework ks))

made_by : (made : List MadeOffer) → map allocation_by (map offer_of made) ≡ map made_allocation made
made_by [] = refl
made_by (g ∷ made) = ap (λ as_. made_allocation g ∷ as_) (made_by made)

pub begins_shown : (ws : List RoleWeight) (s : State) (k : CountedShares) → BeginRound ws s.sides s.frameworks k → ShowRound ws s.sides s.frameworks [] k.shares
begins_shown ws s k b = record {
  totals = b.totals;
  positive = b.positive;
  shown = subst (λ as_. TallyShows as_ (clients_of s.frameworks) k.shares) (sym (append-nil (allocations_of s.sides)))
      (tally_alike (all_found k.found.items) (allocations_of s.sides) (clients_of s.frameworks) k.shares b.found
      (subst (λ as_. TallyShows as_ (clients_of s.frameworks) k.shares) (counted_all k.found.items b.all) b.counted.shown));
  weights = b.weights;
  weighed = b.weighed;
}

pub round_shown : (ws : List RoleWeight) (s : State) (k : CountedShares) (p : Progress) → Holds s → BeginRound ws s.sides s.frameworks k → p ≡ round_with k.shares s → TallyShows (counted_of k.found.items ++ map allocation_by p.made) (clients_of s.frameworks) p.shares
round_shown ws s k p h b is = subst (λ (q : Progress). TallyShows (counted_of k.found.items ++ map allocation_by q.made) (clients_of s.frameworks) q.shares) (sym is)
    (subst (λ as_. TallyShows (counted_of k.found.items ++ as_) (clients_of s.frameworks) (round_with k.shares s).shares) (sym (ap (map allocation_by) a.made ∙ made_by (round_after ws s).made))
    (tally_alike (allocations_with s.sides (round_after ws s).made) (counted_of k.found.items ++ map made_allocation (round_after ws s).made) (clients_of s.frameworks) (round_with k.shares s).shares
    (beside (allocations_of s.sides) (counted_of k.found.items) (map made_allocation (round_after ws s).made) same_counted) a.shares.shown))
  where
    a : Agrees ws (master_of s) s.run (round_after ws s) (round_with k.shares s)
    a = agreed ws s k.shares h (begins_shown ws s k b)

    same_counted : SameAllocations (allocations_of s.sides) (counted_of k.found.items)
    same_counted framework name = sym (ap (λ as_. amount name (rows_to framework as_)) (counted_all k.found.items b.all) ∙ b.found framework name)

-- and what the agents own that have entered
pub round_owned : (ws : List RoleWeight) (s : State) (k : CountedShares) (p : Progress) → Holds s → BeginRound ws s.sides s.frameworks k → p ≡ round_with k.shares s → SameAmounts p.shares.totals (all_owned k.owned.items)
round_owned ws s k p h b is name =
    ap (λ (q : Progress). amount name q.shares.totals) is
    ∙ (agreed ws s k.shares h (begins_shown ws s k b)).shares.totals name
    ∙ sym (b.totals name)
    ∙ b.counted.owned name

abbrev pub knowing : State → List Framework → State
knowing s fs = record s { frameworks = fs }

-- a round over the same frameworks
pub round_so : (s : State) (fs : List Framework) (t : Tally) (p : Progress) → p ≡ round_with t (knowing s fs) → fs ≡ s.frameworks → p ≡ round_with t s
round_so s fs t p is same = is ∙ ap (λ (gs : List Framework). round_with t (knowing s gs)) same
