-- How much all that is held can be.
use Rattle.std.proofs.Common.{◌≡◌, ◌⊎◌, ℕ, ◌+◌, ◌*◌, ◌≤◌, Bool, true, false, List, [], ◌∷◌, ◌++◌, map, flat_map, length, Option, Some, None, refl, sym, ap, ◌∙◌, subst, arith, inl, inr, zero-le}
use Rattle.std.specs.Prelude.{if◌then◌else◌, nat_lt}
use Rattle.std.specs.List.{AllByRecursion}
use Rattle.names_core.specs.Ids.{Numbered}
use Rattle.quantity.specs.declared.rows.Row.{Row}
use Rattle.quantity.specs.Rows.{AreRows, IsRow, amount, greatest_amount}
use Rattle.quantity.specs.Merging.{count_below, rows_from}
use Rattle.quantity.proofs.Amounts.{amount-append}
use Rattle.quantity.proofs.Rests.{rests_are_less}
use Rattle.quantity.proofs.Walks.{all_drop, front_is, front_small}
use Rattle.messages.specs.declared.task.Job.{Job}
use Rattle.messages.specs.declared.task.Offer.{Offer}
use Rattle.names_core.specs.Weights.{RoleWeight}
use Rattle.cluster_model.specs.Ids.{following, last_number}
use Rattle.cluster_model.specs.Sides.{Side, job_rows, offer_rows, taken, unended}
use Rattle.cluster_model.specs.Events.{MadeOffer}
use Rattle.cluster_model.specs.Masters.{Master}
use Rattle.cluster_model.specs.Rounds.{Client, Round, free, offers_free, offers_to, pick, visits}
use Rattle.master_state.specs.Frameworks.{are_ordered}
use Rattle.cluster_model.specs.Fits.{AllFitTotals, most_sides}
use Rattle.drf_pick.specs.Allocations.{AddUp, all_rows}
use Rattle.master_rounds.specs.Allocations.{allocations_of, allocations_with, job_allocation, made_allocation, offer_allocation, side_allocations}
use Rattle.master_rounds.specs.Laws.{CanBeSummed}
use Rattle.master_rounds.specs.Owned.{totals_in}
use Rattle.master_rounds.proofs.Owning.{totals_alike}
use Rattle.drf_pick.proofs.AllocationRows.{all-append}

abbrev pub HaveRows : List Side → Type 0
HaveRows ss = AllByRecursion (λ s. AreRows s.total) ss

-- what all agents own
abbrev pub total_rows : List Side → List Row
total_rows ss = flat_map (λ s. s.total) ss

amount_small : (name : List ℕ) (rows : List Row) → AreRows rows → amount name rows ≤ greatest_amount
amount_small name rows are = subst (λ n. n ≤ greatest_amount) (front_is name rows are.ordered) (front_small name (rows_from name rows) (all_drop IsRow (count_below name rows) rows are.each))

total_one : (name : List ℕ) (s : Side) (ss : List Side) → amount name (total_rows (s ∷ ss)) ≡ amount name s.total + amount name (total_rows ss)
total_one name s ss = amount-append name s.total (total_rows ss)

total_small : (name : List ℕ) (ss : List Side) → HaveRows ss → amount name (total_rows ss) ≤ 1099511627776 * length ss
total_small name [] rows = zero-le
total_small name (s ∷ ss) rows =
    let one : amount name s.total ≤ 1099511627776 = amount_small name s.total rows.0 in
    omega (arith, total_one name s ss, one, total_small name ss rows.1)

-- what is held on an agent is what is taken of it

offers_held : (os : List Offer) → all_rows (map offer_allocation os) ≡ offer_rows os
offers_held [] = refl
offers_held (o ∷ os) = ap (λ rows. o.resources ++ rows) (offers_held os)

jobs_held : (js : List Job) → all_rows (map job_allocation js) ≡ job_rows js
jobs_held [] = refl
jobs_held (j ∷ js) = ap (λ rows. j.resources ++ rows) (jobs_held js)

side_held : (s : Side) → all_rows (side_allocations s) ≡ taken s
side_held s =
    all-append (map offer_allocation s.offers) (map job_allocation (unended s.booked))
    ∙ ap (λ rows. rows ++ all_rows (map job_allocation (unended s.booked))) (offers_held s.offers)
    ∙ ap (λ rows. offer_rows s.offers ++ rows) (jobs_held (unended s.booked))

-- what is free on some agents
abbrev pub free_rows : List Side → List Row
free_rows ss = flat_map free ss

free_one : (name : List ℕ) (s : Side) (ss : List Side) → amount name (free_rows (s ∷ ss)) ≡ amount name (free s) + amount name (free_rows ss)
free_one name s ss = amount-append name (free s) (free_rows ss)

-- what is held and what is free are what all own
all_held : (name : List ℕ) (ss : List Side) → HaveRows ss → AllFitTotals ss → amount name (all_rows (allocations_of ss)) + amount name (free_rows ss) ≤ amount name (total_rows ss)
all_held name [] rows fits = zero-le
all_held name (s ∷ ss) rows fits =
    let this : amount name (all_rows (allocations_of (s ∷ ss))) ≡ amount name (taken s) + amount name (all_rows (allocations_of ss)) =
    omega (arith, ap (amount name) (all-append (side_allocations s) (allocations_of ss)), amount-append name (all_rows (side_allocations s)) (all_rows (allocations_of ss)), ap (amount name) (side_held s)) in
    omega (arith, this, rests_are_less s.total (taken s) rows.0 name, fits.0 name, free_one name s ss, total_one name s ss, all_held name ss rows.1 fits.1)

owned_held : (name : List ℕ) (ss : List Side) → amount name (flat_map (λ s. if s.is_open then s.total else []) ss) ≤ amount name (total_rows ss)
owned_held name [] = zero-le
owned_held name (s ∷ ss) = omega (arith, total_one name s ss, by s.is_open (owned_held name ss))
  where
    rest : List Row
    rest = flat_map (λ t. if t.is_open then t.total else []) ss

    by : (b : Bool) → amount name (flat_map (λ t. if t.is_open then t.total else []) ss) ≤ amount name (total_rows ss)
        → amount name ((if b then s.total else []) ++ flat_map (λ t. if t.is_open then t.total else []) ss) ≤ amount name s.total + amount name (total_rows ss)
    by true ih = omega (arith, amount-append name s.total (flat_map (λ t. if t.is_open then t.total else []) ss), ih)
    by false ih = omega (arith, ih)

-- a visit of an agent

abbrev pub made_at : Side → Numbered → Numbered → MadeOffer
made_at s id f = record { agent = s.name; offer = record { id = id; framework = f; resources = free s } }

abbrev pub more : Round → Side → Numbered → Round
more r s f = record { made = r.made ++ made_at s r.next f ∷ []; next = following r.next }

-- nothing is offered there, or all that is free goes to a framework
abbrev pub Visited : Round → Side → Round → Type 0
Visited r s after = (after ≡ r) ⊎ ((f : Numbered) × (s.is_open ≡ true) × (after ≡ more r s f))

abbrev more_rows : Round → Side → Numbered → List Row → Round
more_rows r s f rows = record { made = r.made ++ record { agent = s.name; offer = record { id = r.next; framework = f; resources = rows } } ∷ []; next = following r.next }

picked_visited : (r : Round) (s : Side) (rows : List Row) (o : Option Client) → rows ≡ free s → s.is_open ≡ true → Visited r s (offers_to r s.name rows o)
picked_visited r s rows None e is = inl refl
picked_visited r s rows (Some c) e is = inr (c.framework.id, is, ap (more_rows r s c.framework.id) e)

free_visited : (ws : List RoleWeight) (now : ℕ) (totals : List Row) (cs : List Client) (r : Round) (s : Side) (rows : List Row) → rows ≡ free s → s.is_open ≡ true → Visited r s (offers_free ws now totals cs r s.name rows)
free_visited ws now totals cs r s [] e is = inl refl
free_visited ws now totals cs r s (row ∷ rows) e is = by (nat_lt last_number r.next.n)
  where
    by : (b : Bool) → Visited r s (if b then r else offers_to r s.name (row ∷ rows) (pick ws now totals cs r.made s.name (row ∷ rows)))
    by true = inl refl
    by false = picked_visited r s (row ∷ rows) (pick ws now totals cs r.made s.name (row ∷ rows)) e is

pub visited : (ws : List RoleWeight) (now : ℕ) (totals : List Row) (cs : List Client) (r : Round) (s : Side) → Visited r s (visits ws now totals cs r s)
visited ws now totals cs r s = by s.is_open refl
  where
    by : (b : Bool) → s.is_open ≡ b → Visited r s (if b then offers_free ws now totals cs r s.name (free s) else r)
    by true e = free_visited ws now totals cs r s (free s) refl e
    by false e = inl refl

-- how much a round gives

abbrev pub made_rows : List MadeOffer → List Row
made_rows made = all_rows (map made_allocation made)

made_append : (made : List MadeOffer) (g : MadeOffer) → made_rows (made ++ g ∷ []) ≡ made_rows made ++ made_rows (g ∷ [])
made_append [] g = refl
made_append (h ∷ made) g = ap (λ rows. h.offer.resources ++ rows) (made_append made g) ∙ sym (together h.offer.resources (made_rows made) (made_rows (g ∷ [])))
  where
    together : (xs ys zs : List Row) → (xs ++ ys) ++ zs ≡ xs ++ (ys ++ zs)
    together [] ys zs = refl
    together (x ∷ xs) ys zs = ap (λ rows. x ∷ rows) (together xs ys zs)

made_one : (name : List ℕ) (made : List MadeOffer) (g : MadeOffer) → amount name (made_rows (made ++ g ∷ [])) ≡ amount name (made_rows made) + amount name g.offer.resources
made_one name made g = omega (arith, ap (amount name) (made_append made g), amount-append name (made_rows made) (made_rows (g ∷ [])), amount-append name g.offer.resources [])

made_less : (name : List ℕ) (r : Round) (s : Side) (after : Round) → Visited r s after → amount name (made_rows after.made) ≤ amount name (made_rows r.made) + amount name (free s)
made_less name r s after (inl e) = omega (arith, ap (λ (x : Round). amount name (made_rows x.made)) e)
made_less name r s after (inr v) = omega (arith, ap (λ (x : Round). amount name (made_rows x.made)) v.2, made_one name r.made (made_at s r.next v.0))

-- what was given, and what is free on the agents that weren't visited, is no more than was free on all
abbrev pub Within : Master → Round → List Side → Type 0
Within m r ss = (name : List ℕ) → amount name (made_rows r.made) + amount name (free_rows ss) ≤ amount name (free_rows m.sides)

pub within_next : (m : Master) (r : Round) (s : Side) (ss : List Side) (after : Round) → Visited r s after → Within m r (s ∷ ss) → Within m after ss
within_next m r s ss after v w name = omega (arith, w name, free_one name s ss, made_less name r s after v)

-- so all can be summed
pub can_be_summed : (m : Master) (r : Round) (ss : List Side) → are_ordered m.registers.frameworks ≡ true → HaveRows m.sides → AllFitTotals m.sides → length m.sides ≤ most_sides → Within m r ss → CanBeSummed m r.made
can_be_summed m r ss ordered rows fits few w = record {
  ordered = ordered;
  rows = rows;
  held = λ name. omega (arith, ap (amount name) (all-append (allocations_of m.sides) (map made_allocation r.made)), amount-append name (all_rows (allocations_of m.sides)) (made_rows r.made), all_held name m.sides rows fits, total_small name m.sides rows, few, w name);
}

-- with what is free on the next agent too
pub free_adds_up : (m : Master) (r : Round) (s : Side) (ss : List Side) → HaveRows m.sides → AllFitTotals m.sides → length m.sides ≤ most_sides → Within m r (s ∷ ss) → AddUp (all_rows (allocations_with m.sides r.made) ++ free s)
free_adds_up m r s ss rows fits few w name =
    omega (
      arith,
      amount-append name (all_rows (allocations_with m.sides r.made)) (free s),
      ap (amount name) (all-append (allocations_of m.sides) (map made_allocation r.made)),
      amount-append name (all_rows (allocations_of m.sides)) (made_rows r.made),
      all_held name m.sides rows fits,
      total_small name m.sides rows,
      few,
      w name,
      free_one name s ss,
    )

-- before anything is offered
pub sides_add_up : (ss : List Side) → HaveRows ss → AllFitTotals ss → length ss ≤ most_sides → AddUp (all_rows (allocations_of ss))
sides_add_up ss rows fits few name = omega (arith, all_held name ss rows fits, total_small name ss rows, few)

pub totals_add_up : (ss : List Side) → HaveRows ss → length ss ≤ most_sides → AddUp (totals_in ss)
totals_add_up ss rows few name = omega (arith, ap (amount name) (totals_alike ss), owned_held name ss, total_small name ss rows, few)
