-- What steps change of a side.
use Rattle.std.specs.Prelude.{ℕ, not, if◌then◌else◌, List, [], ◌∷◌, ◌++◌, filter}
use Rattle.std.specs.List.{list_any}
use Rattle.names_core.specs.Ids.{Numbered, same}
use Rattle.messages.specs.declared.task.Offer.{Offer}
use Rattle.messages.specs.declared.task.Booked.{Booked}
use Rattle.quantity.specs.declared.rows.Row.{Row}
use Rattle.quantity.specs.Rows.{covers}
use Rattle.cluster_model.specs.Sides.{Side, new_side, opened, taken}
use Rattle.cluster_model.specs.Masters.{is_of}
use Rattle.roster.specs.Sessions.{report_opens}
use Rattle.offer_tables.specs.Accounts.{Account}
use Rattle.offer_tables.specs.Accounts.{new_account}
use Rattle.master_agents.specs.declared.config.ConfiguredAgent.{ConfiguredAgent}

abbrev pub without_offers_of : Numbered → Side → Side
without_offers_of framework s = record s { offers = filter (λ o. not (is_of framework o)) s.offers }

abbrev pub with_offer : Offer → Side → Side
with_offer o s = record s { offers = s.offers ++ o ∷ [] }

-- with one more offer, where no current offer on the agent has its id and it fits the total
abbrev pub offering : Offer → Side → Side
offering o s =
    if list_any (λ other. same other.id o.id) s.offers then s
    else (if covers s.total (o.resources ++ taken s) then with_offer o s else s)

abbrev pub with_task : Booked → Side → Side
with_task b s = record s { booked = s.booked ++ b ∷ [] }

-- a Report is received with these tasks and this total: where it opens a session, the session is
-- open, the tasks are booked, and the agent owns the total
abbrev pub reporting : ℕ → ℕ → ℕ → List Booked → List Row → Side → Side
reporting run session number tasks total s =
    if report_opens run s session number then opened s session tasks total else s

-- a configured agent that has not yet opened a session: what it owns isn't known

abbrev pub side_of : ConfiguredAgent → Side
side_of a = new_side a.name

abbrev pub account_of : ConfiguredAgent → Account
account_of a = new_account a.name []
