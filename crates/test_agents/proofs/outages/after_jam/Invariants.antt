use Rattle.test_agents.proofs.outages.after_jam.Given as goal

-- the ledger of the blank that was just made
abbrev pub ghosts-jammed : goal.ghosts-jammed
ghosts-jammed g a = record { name = a.blank.name; parts = a.blank.parts }
