-- Offers that are made and tasks that are booked, each on the agent of a name.
use Rattle.std.specs.Prelude.{ℕ, Bool, if◌then◌else◌, List, ◌++◌, Result, Ok, Err}
use Rattle.std.specs.List.{list_any}
use Rattle.names_core.specs.Ids.{Numbered, same}
use Rattle.quantity.specs.declared.rows.Row.{Row}
use Rattle.quantity.specs.Rows.{covers}
use Rattle.messages.specs.declared.task.Offer.{Offer}
use Rattle.messages.specs.declared.task.Booked.{Booked}
use Rattle.cluster_model.specs.Sides.{Side, taken}
use Rattle.offer_tables.specs.Accounts.{unended_rows}
use Rattle.offer_tables.specs.declared.fault.BookFault.{BookFault}
use Rattle.offer_tables.specs.declared.fault.BookFault.TheVariants.{Unknown, NoRoom, Twice}
use Rattle.master_agents.specs.Changes.{with_offer, with_task}
use Rattle.master_agents.specs.Looks.{at_name, value_of}

-- an offer of this id is current, on any agent
abbrev pub is_offered : Numbered → List Side → Bool
is_offered id ss = list_any (λ s. list_any (λ o. same o.id id) s.offers) ss

-- a task of this key is booked, on any agent
abbrev pub is_booked : Numbered → List Side → Bool
is_booked key ss = list_any (λ s. list_any (λ b. same b.job.key key) s.booked) ss

-- beside what is taken of the agent its total has room for these rows too
abbrev pub fits : List Row → Side → Bool
fits rows s = covers s.total (rows ++ taken s)

abbrev pub offered_at : List ℕ → Offer → List Side → Side → Result (List Side) BookFault
offered_at name o ss s =
    if is_offered o.id ss then Err Twice
    else (if fits o.resources s then Ok (at_name name (with_offer o) ss) else Err NoRoom)

-- an offer is made at the agent of a name, where its total has room for it
abbrev pub offered_to : List ℕ → Offer → List Side → Result (List Side) BookFault
offered_to name o ss = value_of name (offered_at name o ss) (Err Unknown) ss

abbrev pub booked_at : List ℕ → Booked → List Side → Side → Result (List Side) BookFault
booked_at name b ss s =
    if is_booked b.job.key ss then Err Twice
    else (if fits (unended_rows b) s then Ok (at_name name (with_task b) ss) else Err NoRoom)

-- a task is booked on the agent of a name, where its total has room for what it uses: nothing, if
-- it has ended
abbrev pub booked_on : List ℕ → Booked → List Side → Result (List Side) BookFault
booked_on name b ss = value_of name (booked_at name b ss) (Err Unknown) ss
