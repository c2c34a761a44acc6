use Rattle.test_office.proofs.threads.of_desk_lock.a_foreign_receipt.Given as goal

-- the ledger of the blank that was just made
abbrev pub ghosts-foreign : goal.ghosts-foreign
ghosts-foreign a = record { name = a.blank.name; parts = a.blank.parts }
