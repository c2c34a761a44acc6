use Rattle.test_office.proofs.of_office_bench.seen.Given as goal

-- the ledger of the blank that was just made
abbrev pub ghosts-served : goal.ghosts-served
ghosts-served g a = record { name = a.blank.name; parts = a.blank.parts }
