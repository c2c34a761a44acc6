use Rattle.keep_folder.proofs.Folded.{kept_by_files}
use Rattle.keep_folder.proofs.stores.load_over.Goals as goal

pub returns-in-Ok : goal.returns-in-Ok
returns-in-Ok g c = kept_by_files c.in_ok-keeper.keeper c.in-Ok.files c.in_ok-keeper.given.record c.in-Ok.ensures.copied c.in-Ok.ensures.sound c.in_ok-keeper.ensures.found
