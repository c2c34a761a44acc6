use Rattle.test_agents.proofs.tests.two_rounds.Given as goal

-- the ledger of the blank that was just made
abbrev pub ghosts-makes_two_rounds : goal.ghosts-makes_two_rounds
ghosts-makes_two_rounds g a = record { name = a.blank.name; parts = a.blank.parts }
