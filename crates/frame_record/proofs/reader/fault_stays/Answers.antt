use Rattle.frame_record.proofs.Splitting.{fault_at_end}
use Rattle.frame_record.proofs.reader.fault_stays.Goals as goal

pub returns : goal.returns
returns c = fault_at_end
