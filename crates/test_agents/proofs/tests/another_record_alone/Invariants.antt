use Rattle.test_agents.proofs.tests.another_record_alone.Given as goal

-- the ledger of the blank that was just made
abbrev pub ghosts-ends_alone : goal.ghosts-ends_alone
ghosts-ends_alone g a = record { name = a.blank.name; parts = a.blank.parts }
