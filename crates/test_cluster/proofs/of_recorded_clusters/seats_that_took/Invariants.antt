use Rattle.test_cluster.proofs.of_recorded_clusters.seats_that_took.Given as goal

-- the ledger of the blank that was just made
abbrev pub ghosts-two_seats : goal.ghosts-two_seats
ghosts-two_seats g a = record { name = a.blank.name; parts = a.blank.parts }
