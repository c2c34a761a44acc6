use Rattle.test_agents.proofs.stops.launch_with.Given as goal

-- the ledger of the blank that was just made
abbrev pub ghosts-launch_in : goal.ghosts-launch_in
ghosts-launch_in g a = record { name = a.blank.name; parts = a.blank.parts }
