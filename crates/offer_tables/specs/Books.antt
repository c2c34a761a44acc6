-- What a book has of all agents, and what its calls do.
use Rattle.std.specs.Prelude.{ℕ, Bool, if◌then◌else◌, List, [], ◌∷◌, ◌++◌, map, Option, Some, None, Result, Ok, Err, bytes_eq}
use Rattle.std.specs.List.{list_any, find}
use Rattle.names_core.specs.Ids.{Numbered}
use Rattle.quantity.specs.declared.rows.Row.{Row}
use Rattle.messages.specs.declared.task.Offer.{Offer}
use Rattle.messages.specs.declared.task.Booked.{Booked}
use Rattle.offer_book.specs.declared.tasks.TaskUpdate.{TaskUpdate}
use Rattle.offer_tables.specs.Accounts.{Account, new_account, dropped, free, fits, with_offer, without_offer, with_task, is_offered_as, has_key, with_ended, without_key, reopened, receiving, unended_rows, after_commands, without_named}
use Rattle.messages.specs.declared.mail.Command.{Command}
pub use Rattle.offer_tables.specs.Accounts.{is_agent}
use Rattle.offer_tables.specs.declared.fault.BookFault.{BookFault}
use Rattle.offer_tables.specs.declared.fault.BookFault.TheVariants.{Unknown, NoRoom, Twice}

abbrev pub is_named_so : List ℕ → Account → Bool
is_named_so name a = bytes_eq a.name name

-- an offer of this id is current, on any agent
abbrev pub is_offered : Numbered → List Account → Bool
is_offered id as_ = list_any (λ a. list_any (is_offered_as id) a.offers) as_

-- a task of this key is booked, on any agent
abbrev pub is_booked : Numbered → List Account → Bool
is_booked key as_ = list_any (λ a. list_any (has_key key) a.booked) as_

-- the first account that passes a test is changed
abbrev pub at_first : (Account → Bool) → (Account → Account) → List Account → List Account
at_first test change [] = []
at_first test change (a ∷ as_) = if test a then change a ∷ as_ else a ∷ at_first test change as_

-- calls that may be refused

-- an agent enters: at its place, where it was in before
abbrev pub entered_at : List ℕ → List Row → List Account → Option Account
    → Result (List Account) BookFault
entered_at name total as_ None = Ok (as_ ++ new_account name total ∷ [])
entered_at name total as_ (Some a) =
    if a.is_in then Err Twice
    else Ok (at_first (is_named_so name) (λ b. new_account name total) as_)

abbrev pub entered : List ℕ → List Row → List Account → Result (List Account) BookFault
entered name total as_ = entered_at name total as_ (find (is_named_so name) as_)

abbrev pub agent_of : List ℕ → List Account → Option Account
agent_of name as_ = find (is_agent name) as_

-- a change of the account of the agent of this name
abbrev pub changed_at : List ℕ → (Account → Account) → List Account → Option Account
    → Result (List Account) BookFault
changed_at name change as_ None = Err Unknown
changed_at name change as_ (Some a) = Ok (at_first (is_agent name) change as_)

abbrev pub changed : List ℕ → (Account → Account) → List Account → Result (List Account) BookFault
changed name change as_ = changed_at name change as_ (agent_of name as_)

abbrev pub dropped_from : List ℕ → List Account → Result (List Account) BookFault
dropped_from name as_ = changed name dropped as_

-- an update of a task on it is received
abbrev pub received : TaskUpdate → List Account → List Account
received u as_ = map (receiving u.key u.k u.state u.ended) as_

-- its session opens or ends: it has no offers and no tasks, and owns this total
abbrev pub emptied_on : List ℕ → List Row → List Account → Result (List Account) BookFault
emptied_on name total as_ = changed name (reopened [] total) as_

-- its session opens with these tasks
abbrev pub reopened_on : List ℕ → List Booked → List Row → List Account
    → Result (List Account) BookFault
reopened_on name tasks total as_ = changed name (reopened tasks total) as_

-- an update of a task on it is received
abbrev pub received_on : List ℕ → TaskUpdate → List Account → Result (List Account) BookFault
received_on name u as_ = changed name (receiving u.key u.k u.state u.ended) as_

-- it has applied these commands
abbrev pub applied_on : List ℕ → List Command → List Account → Result (List Account) BookFault
applied_on name commands as_ = changed name (after_commands commands) as_

-- the offers on it to a framework that have one of these ids are withdrawn
abbrev pub withdrawn_on : List ℕ → Numbered → List Numbered → List Account
    → Result (List Account) BookFault
withdrawn_on name framework ids as_ = changed name (without_named framework ids) as_

abbrev pub free_at : Option Account → Result (List Row) BookFault
free_at None = Err Unknown
free_at (Some a) = Ok (free a)

-- what is free at an agent
abbrev pub free_of : List ℕ → List Account → Result (List Row) BookFault
free_of name as_ = free_at (agent_of name as_)

abbrev pub offered_at : List ℕ → Offer → List Account → Option Account
    → Result (List Account) BookFault
offered_at name o as_ None = Err Unknown
offered_at name o as_ (Some a) =
    if is_offered o.id as_ then Err Twice
    else (if fits a o.resources then Ok (at_first (is_agent name) (with_offer o) as_)
    else Err NoRoom)

-- an offer is made where the total has room for it
abbrev pub offered : List ℕ → Offer → List Account → Result (List Account) BookFault
offered name o as_ = offered_at name o as_ (agent_of name as_)

abbrev pub booked_at : List ℕ → Booked → List Account → Option Account
    → Result (List Account) BookFault
booked_at name b as_ None = Err Unknown
booked_at name b as_ (Some a) =
    if is_booked b.job.key as_ then Err Twice
    else (if fits a (unended_rows b) then Ok (at_first (is_agent name) (with_task b) as_)
    else Err NoRoom)

-- a task is booked where the total has room for it
abbrev pub booked : List ℕ → Booked → List Account → Result (List Account) BookFault
booked name b as_ = booked_at name b as_ (agent_of name as_)

abbrev pub withdrawn : Numbered → List Account → Result (List Account) BookFault
withdrawn id as_ = if is_offered id as_ then Ok (map (without_offer id) as_) else Err Unknown

abbrev pub task_ended : Numbered → List Account → Result (List Account) BookFault
task_ended key as_ = if is_booked key as_ then Ok (map (with_ended key) as_) else Err Unknown

abbrev pub forgotten : Numbered → List Account → Result (List Account) BookFault
forgotten key as_ = if is_booked key as_ then Ok (map (without_key key) as_) else Err Unknown
