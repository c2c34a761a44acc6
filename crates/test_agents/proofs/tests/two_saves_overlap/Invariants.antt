use Rattle.test_agents.proofs.tests.two_saves_overlap.Given as goal

-- the ledger of the blank that was just made
abbrev pub ghosts-two_saves : goal.ghosts-two_saves
ghosts-two_saves g a = record { name = a.blank.name; parts = a.blank.parts }
