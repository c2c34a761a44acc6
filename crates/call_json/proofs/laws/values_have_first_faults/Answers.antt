use Rattle.call_json.proofs.JudgedCalls.{values_have_first_faults}
use Rattle.call_json.proofs.laws.values_have_first_faults.Goals as goal

pub returns : goal.returns
returns c = values_have_first_faults
