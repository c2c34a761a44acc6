use Rattle.frame_record.proofs.Splitting.{first_records}
use Rattle.frame_record.proofs.reader.first_records_stay.Goals as goal

pub returns : goal.returns
returns c = first_records
