use Rattle.test_office.proofs.threads.of_desk_lock.a_waiting_call.Given as goal

-- the ledger of the blank that was just made
abbrev pub ghosts-waiting : goal.ghosts-waiting
ghosts-waiting g a = record { name = a.blank.name; parts = a.blank.parts }
