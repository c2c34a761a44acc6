-- Rounds of offers by dominant shares (DRF paper, section 4; Mesos paper, section 3.1).
use Rattle.std.specs.Prelude.{ℕ, ◌*◌, ◌+◌, Bool, true, false, not, ◌&&◌, ◌||◌, nat_lt, nat_le, if◌then◌else◌, List, [], ◌∷◌, ◌++◌, length, map, filter, flat_map, fold, drop, Option, Some, None, bytes_eq}
use Rattle.std.specs.List.{list_any, list_all}
use Rattle.names_core.specs.Ids.{Numbered, same, before}
use Rattle.quantity.specs.declared.rows.Row.{Row}
use Rattle.quantity.specs.Rows.{amount, covers, rest_of}
use Rattle.names_core.specs.Weights.{RoleWeight, weight_of}
use Rattle.cluster_model.specs.Ids.{following, bytes_before, last_number}
use Rattle.cluster_model.specs.Sides.{Side, MakeOffer, taken, offer_rows, job_rows, unended}
use Rattle.cluster_model.specs.Events.{MadeOffer, StreamEvent, Offers, offer_of}
use Rattle.cluster_model.specs.Masters.{Master, Framework, Filter, MasterEffect, Move, AtSide, moved, on_stream}

-- what is held, and its weight: how much of all that agents own is its due, beside the others'
pub record Share : Type 0 where
  pub held : List Row
  pub weight : ℕ

abbrev pub share : List Row → ℕ → Share
share held weight = record { held = held; weight = weight }

-- Stands at most at: for each name i of the totals there is a name j at which the second's share by
-- its weight is no less than the first's share of i by its own
abbrev pub is_at_most_at : List Row → Share → Share → Row → Row → Bool
is_at_most_at totals a b i j =
    nat_le (amount i.name a.held * (amount j.name totals * b.weight))
    (amount j.name b.held * (amount i.name totals * a.weight))

abbrev pub stands_at_most_at : List Row → Share → Share → Bool
stands_at_most_at totals a b =
    list_all (λ i. list_any (λ j. is_at_most_at totals a b i j) totals) totals

-- allocations

-- a framework's allocation on one agent: current offers, and booked tasks that haven't ended
abbrev pub allocated_on : Numbered → Side → List Row
allocated_on framework s =
    offer_rows (filter (λ o. same o.framework framework) s.offers)
    ++ job_rows (filter (λ j. same j.framework framework) (unended s.booked))

abbrev pub allocation_of : Master → Numbered → List Row
allocation_of m framework = flat_map (allocated_on framework) m.sides

-- the rows of this round's offers to a framework
abbrev pub given_to : Numbered → List MadeOffer → List Row
given_to framework made =
    flat_map (λ g. if same g.offer.framework framework then g.offer.resources else []) made

-- what agents with an open session own
abbrev pub totals_of : Master → List Row
totals_of m = flat_map (λ s. if s.is_open then s.total else []) m.sides

-- a framework with its allocation before the round
pub record Client : Type 0 where
  pub framework : Framework
  pub allocation : List Row

abbrev pub clients_of : Master → List Client
clients_of m =
    map (λ f. record { framework = f; allocation = allocation_of m f.id }) m.registers.frameworks

-- with the offers of the round so far
abbrev pub held_with : List MadeOffer → Client → List Row
held_with made c = c.allocation ++ given_to c.framework.id made

-- frameworks of one role count alike
abbrev pub share_of : List MadeOffer → Client → Share
share_of made c = share (held_with made c) 1

abbrev pub role_rows : List Client → List MadeOffer → List ℕ → List Row
role_rows cs made role =
    flat_map (λ c. if bytes_eq c.framework.role role then held_with made c else []) cs

abbrev pub role_share : List RoleWeight → List Client → List MadeOffer → List ℕ → Share
role_share weights cs made role = share (role_rows cs made role) (weight_of weights role)

-- the least client

-- by two shares, and by the tie where they compare alike
abbrev pub stands_first : List Row → Share → Share → Bool → Bool
stands_first totals a b tie =
    stands_at_most_at totals a b && (tie || not (stands_at_most_at totals b a))

-- the first is served rather than the second: by their roles, and within a role by themselves
abbrev pub comes_before : List RoleWeight → List Row → List Client → List MadeOffer → Client
    → Client → Bool
comes_before weights totals cs made c d =
    if bytes_eq c.framework.role d.framework.role
    then stands_first totals (share_of made c) (share_of made d)
    (before c.framework.id d.framework.id)
    else stands_first totals (role_share weights cs made c.framework.role)
    (role_share weights cs made d.framework.role)
    (bytes_before c.framework.role d.framework.role)

abbrev pub first_client : (Client → Client → Bool) → Option Client → Client → Option Client
first_client comes None c = Some c
first_client comes (Some d) c = if comes c d then Some c else Some d

-- eligible clients

abbrev pub is_subscribed : Option Numbered → Bool
is_subscribed None = false
is_subscribed (Some stream) = true

-- a filter that runs on this agent and whose refused part covers the free part
abbrev pub refuses : ℕ → List ℕ → List Row → Filter → Bool
refuses now agent free x =
    bytes_eq x.agent agent && nat_lt now (x.made + x.seconds) && covers x.refused free

-- what is free on an agent may be offered to a framework
abbrev pub may_be_offered : ℕ → List ℕ → List Row → Framework → Bool
may_be_offered now agent free f =
    is_subscribed f.stream && not f.suppressed && not (list_any (refuses now agent free) f.filters)

abbrev pub is_eligible : ℕ → List ℕ → List Row → Client → Bool
is_eligible now agent free c = may_be_offered now agent free c.framework

abbrev pub pick : List RoleWeight → ℕ → List Row → List Client → List MadeOffer → List ℕ → List Row
    → Option Client
pick weights now totals cs made agent free =
    fold (first_client (comes_before weights totals cs made)) None
    (filter (is_eligible now agent free) cs)

-- the round

-- the offers so far, and the next offer's id
pub record Round : Type 0 where
  pub made : List MadeOffer
  pub next : Numbered

abbrev pub offers_to : Round → List ℕ → List Row → Option Client → Round
offers_to r agent free None = r
offers_to r agent free (Some c) = record {
  made =
      r.made ++ record {
        agent = agent;
        offer = record { id = r.next; framework = c.framework.id; resources = free };
      } ∷ [];
  next = following r.next;
}

-- a free part that isn't empty goes whole to the least eligible client, while ids are left
abbrev pub offers_free : List RoleWeight → ℕ → List Row → List Client → Round → List ℕ → List Row
    → Round
offers_free weights now totals cs r agent [] = r
offers_free weights now totals cs r agent (row ∷ rows) =
    if nat_lt last_number r.next.n then r
    else offers_to r agent (row ∷ rows) (pick weights now totals cs r.made agent (row ∷ rows))

abbrev pub free : Side → List Row
free s = rest_of s.total (taken s)

abbrev pub visits : List RoleWeight → ℕ → List Row → List Client → Round → Side → Round
visits weights now totals cs r s =
    if s.is_open then offers_free weights now totals cs r s.name (free s) else r

abbrev pub round : List RoleWeight → Master → List MadeOffer
round weights m =
    (fold (visits weights m.registers.now (totals_of m) (clients_of m))
    (record { made = []; next = m.run.next_offer }) m.sides).made

-- the offers that entered the current ones

abbrev pub entered_on : Side → Side → List MadeOffer
entered_on old new =
    map (λ o. record { agent = new.name; offer = o }) (drop (length old.offers) new.offers)

abbrev pub entered : List Side → List Side → List MadeOffer
entered [] news = []
entered (old ∷ olds) [] = []
entered (old ∷ olds) (new ∷ news) = entered_on old new ++ entered olds news

-- one OFFERS event for each framework with new offers
abbrev pub offer_events : Framework → List MadeOffer → List StreamEvent
offer_events f [] = []
offer_events f (made ∷ more) = on_stream f.stream (Offers (map offer_of (made ∷ more)))

abbrev pub offers_of : List MadeOffer → Framework → List StreamEvent
offers_of made f = offer_events f (filter (λ g. same g.offer.framework f.id) made)

abbrev pub making : List RoleWeight → Master → List Move
making weights m = map (λ g. AtSide g.agent (MakeOffer g.offer)) (round weights m)

-- the events have the offers that are then current and weren't before
abbrev pub allocated : List RoleWeight → Master → MasterEffect
allocated weights m = record {
  refusal = None;
  moves = making weights m;
  events =
      flat_map (offers_of (entered m.sides (moved m (making weights m)).sides))
      m.registers.frameworks;
  opens = [];
  closes = [];
  registers = m.registers;
}
