use Rattle.test_office.proofs.of_office_bench.a_history_is_full.Given as goal

-- the ledger of the blank that was just made
abbrev pub ghosts-refuses_full : goal.ghosts-refuses_full
ghosts-refuses_full g a = record { name = a.blank.name; parts = a.blank.parts }
