use Rattle.test_agents.proofs.tests.an_unknown_agent.Given as goal

-- the ledger of the blank that was just made
abbrev pub ghosts-ends_at_once : goal.ghosts-ends_at_once
ghosts-ends_at_once g a = record { name = a.blank.name; parts = a.blank.parts }
