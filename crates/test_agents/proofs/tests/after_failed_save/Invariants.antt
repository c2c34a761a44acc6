use Rattle.test_agents.proofs.tests.after_failed_save.Given as goal

-- the ledger of the blank that was just made
abbrev pub ghosts-failed_save : goal.ghosts-failed_save
ghosts-failed_save g a = record { name = a.blank.name; parts = a.blank.parts }
