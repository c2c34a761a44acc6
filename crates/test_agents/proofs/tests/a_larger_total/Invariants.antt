use Rattle.test_agents.proofs.tests.a_larger_total.Given as goal

-- the ledger of the blank that was just made
abbrev pub ghosts-grows : goal.ghosts-grows
ghosts-grows g a = record { name = a.blank.name; parts = a.blank.parts }
