use Rattle.test_office.proofs.threads.of_desk_lock.a_call_in_another_group.Given as goal

-- the ledger of the blank that was just made
abbrev pub ghosts-sleeping : goal.ghosts-sleeping
ghosts-sleeping g a = record { name = a.blank.name; parts = a.blank.parts }
