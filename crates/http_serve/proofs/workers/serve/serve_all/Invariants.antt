use Rattle.http_serve.proofs.workers.serve.serve_all.Given as goal

-- the ledger of the blank that was just made
abbrev pub ghosts-serve_counted : goal.ghosts-serve_counted
ghosts-serve_counted g a = record { name = a.blank.name; parts = a.blank.parts }
