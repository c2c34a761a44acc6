use Rattle.test_office.proofs.threads.of_desk_lock.refused_steps.Given as goal

-- the ledger of the blank that was just made
abbrev pub ghosts-refusing : goal.ghosts-refusing
ghosts-refusing g a = record { name = a.blank.name; parts = a.blank.parts }
