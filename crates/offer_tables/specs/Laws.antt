-- What follows from the book's definitions.
use Rattle.std.specs.Prelude.{◌≡◌, ℕ, true, List, Ok}
use Rattle.messages.specs.declared.task.Booked.{Booked}
use Rattle.offer_tables.specs.Accounts.{Account}
use Rattle.offer_tables.specs.Books.{booked, free_of}

-- where a task that has ended is booked, what is free of each agent is as it was
abbrev pub EndedTakesNothing : Type 0
EndedTakesNothing =
    (name agent : List ℕ) (b : Booked) (old new : List Account) → b.ended ≡ true
    → booked name b old ≡ Ok new → free_of agent new ≡ free_of agent old
