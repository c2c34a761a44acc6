use Rattle.keep_folder.proofs.folder.open_folder.Goals as goal

pub returns-in-Ok-clause-run : goal.returns-in-Ok-clause-run
returns-in-Ok-clause-run c = rw c.new-lock.ensures c.in_ok-run.ensures.run
