use Rattle.frame_record.proofs.Splitting.{partial_is_short}
use Rattle.frame_record.proofs.reader.what_waits_is_short.Goals as goal

pub returns : goal.returns
returns c = partial_is_short
