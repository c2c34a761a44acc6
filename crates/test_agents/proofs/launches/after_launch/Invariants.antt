use Rattle.test_agents.proofs.launches.after_launch.Given as goal

-- the ledger of the blank that was just made
abbrev pub ghosts-launched : goal.ghosts-launched
ghosts-launched g a = record { name = a.blank.name; parts = a.blank.parts }
