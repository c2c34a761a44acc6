-- An update that says that its task has ended.
use Rattle.std.specs.Prelude.{◌≡◌, true}
use Rattle.offer_book.specs.declared.tasks.TaskUpdate.{TaskUpdate}
use Rattle.offer_tables.specs.Accounts.{Account, free, receiving, with_ended}

-- once it is received the same is free as once the task is ended
abbrev pub FreesAsEnding : Type 0
FreesAsEnding =
    (u : TaskUpdate) (a : Account) → u.ended ≡ true
    → free (receiving u.key u.k u.state u.ended a) ≡ free (with_ended u.key a)
