use Rattle.std.proofs.Common.{refl}
use Rattle.keep_folder.proofs.cabinet.FileCabinetCabinet.save.Goals as goal

pub returns : goal.returns
returns c = c.in_ok-ask.ensures.kept c.args.durable refl
