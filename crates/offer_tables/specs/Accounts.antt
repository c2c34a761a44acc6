-- What a book has of one agent (Mesos paper, section 3.1: offers).
use Rattle.std.specs.Prelude.{ℕ, zero, suc, Bool, false, true, not, ◌&&◌, ◌==◌, if◌then◌else◌, List, [], ◌∷◌, ◌++◌, map, filter, bytes_eq}
use Rattle.names_core.specs.Ids.{Numbered, same}
use Rattle.names_core.specs.declared.state.TaskState.{TaskState}
use Rattle.quantity.specs.declared.rows.Row.{Row}
use Rattle.quantity.specs.Rows.{covers, rest_of}
use Rattle.messages.specs.declared.task.Offer.{Offer}
use Rattle.messages.specs.declared.task.Booked.{Booked}
use Rattle.cluster_model.specs.Sides.{unended, job_rows, offer_rows, received_update, forget_all, is_named}
use Rattle.cluster_model.specs.Masters.{is_of}
use Rattle.messages.specs.declared.mail.Command.{Command}
use Rattle.names_core.specs.States.{is_terminal}
use Rattle.offer_book.specs.Changes.{ended}

pub record Account : Type 0 where
  pub name : List ℕ
  pub is_in : Bool  -- the agent has entered, and wasn't dropped since
  pub total : List Row  -- owned
  pub offers : List Offer  -- current ones
  pub booked : List Booked

-- the account is of the agent of this name, and the agent is in
abbrev pub is_agent : List ℕ → Account → Bool
is_agent name a = a.is_in && bytes_eq a.name name

-- an agent that has entered
abbrev pub new_account : List ℕ → List Row → Account
new_account name total =
    record { name = name; is_in = true; total = total; offers = []; booked = [] }

-- an agent that was dropped
abbrev pub dropped : Account → Account
dropped a = record { name = a.name; is_in = false; total = []; offers = []; booked = [] }

-- what offers have, and what tasks use that haven't ended
abbrev pub taken_by : List Offer → List Booked → List Row
taken_by os bs = offer_rows os ++ job_rows (unended bs)

-- current offers and booked tasks that haven't ended
abbrev pub taken : Account → List Row
taken a = taken_by a.offers a.booked

abbrev pub free : Account → List Row
free a = rest_of a.total (taken a)

-- beside what is taken the total has room for these rows too
abbrev pub fits : Account → List Row → Bool
fits a rows = covers a.total (rows ++ taken a)

-- offers

abbrev pub is_offered_as : Numbered → Offer → Bool
is_offered_as id o = same o.id id

abbrev pub with_offer : Offer → Account → Account
with_offer o a = record a { offers = a.offers ++ o ∷ [] }

abbrev pub without_offer : Numbered → Account → Account
without_offer id a = record a { offers = filter (λ o. not (is_offered_as id o)) a.offers }

abbrev pub without_offers_of : Numbered → Account → Account
without_offers_of framework a = record a { offers = filter (λ o. not (is_of framework o)) a.offers }

abbrev pub without_named : Numbered → List Numbered → Account → Account
without_named framework ids a =
    record a { offers = filter (λ o. not (is_named framework ids o)) a.offers }

-- the item at an index is taken out, if it passes a test
abbrev pub without_at : {T : Type 0} → (T → Bool) → ℕ → List T → List T
without_at test i [] = []
without_at test zero (x ∷ xs) = if test x then xs else x ∷ xs
without_at test (suc i) (x ∷ xs) = x ∷ without_at test i xs

abbrev pub without_offer_at : (Offer → Bool) → ℕ → Account → Account
without_offer_at test i a = record a { offers = without_at test i a.offers }

-- booked tasks

abbrev pub has_key : Numbered → Booked → Bool
has_key key b = same b.job.key key

-- what a booked task uses, if it hasn't ended
abbrev pub unended_rows : Booked → List Row
unended_rows b = if b.ended then [] else b.job.resources

abbrev pub with_task : Booked → Account → Account
with_task b a = record a { booked = a.booked ++ b ∷ [] }

abbrev pub with_ended : Numbered → Account → Account
with_ended key a = record a { booked = map (ended key) a.booked }

abbrev pub without_key : Numbered → Account → Account
without_key key a = record a { booked = filter (λ b. not (has_key key b)) a.booked }

-- a session opens: no offers, and the tasks and the total that are reported
abbrev pub reopened : List Booked → List Row → Account → Account
reopened tasks total a = record a { total = total; offers = []; booked = tasks }

abbrev pub receiving : Numbered → ℕ → TaskState → Bool → Account → Account
receiving key k state has_ended a =
    record a { booked = map (received_update key k state has_ended) a.booked }

-- the agent has applied these commands
abbrev pub after_commands : List Command → Account → Account
after_commands commands a = record a { booked = forget_all commands a.booked }

abbrev pub is_of_framework : Numbered → Booked → Bool
is_of_framework framework b = same b.job.framework framework

-- the task has ended, and the last of its updates that were received, of this number, says so
abbrev pub is_acknowledged : ℕ → Booked → Bool
is_acknowledged k b = b.ended && b.received == suc k && is_terminal b.state

abbrev pub without_task_at : (Booked → Bool) → ℕ → Account → Account
without_task_at test i a = record a { booked = without_at test i a.booked }
