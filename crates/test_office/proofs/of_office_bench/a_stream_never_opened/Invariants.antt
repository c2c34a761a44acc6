use Rattle.test_office.proofs.of_office_bench.a_stream_never_opened.Given as goal

-- the ledger of the blank that was just made
abbrev pub ghosts-refuses_unopened : goal.ghosts-refuses_unopened
ghosts-refuses_unopened g a = record { name = a.blank.name; parts = a.blank.parts }
