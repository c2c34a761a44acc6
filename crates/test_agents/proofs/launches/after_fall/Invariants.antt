use Rattle.test_agents.proofs.launches.after_fall.Given as goal

-- the ledger of the blank that was just made
abbrev pub ghosts-fallen : goal.ghosts-fallen
ghosts-fallen g a = record { name = a.blank.name; parts = a.blank.parts }
