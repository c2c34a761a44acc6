use Rattle.keep_folder.proofs.files.keeper_over.Goals as goal

pub returns-in-Ok-adopt-clause-found : goal.returns-in-Ok-adopt-clause-found
returns-in-Ok-adopt-clause-found g c clean = (c.in-Ok.conn, c.in-Ok.is, c.in-Ok-adopt.ensures.clean clean, c.in-Ok-adopt.ensures.found clean)
