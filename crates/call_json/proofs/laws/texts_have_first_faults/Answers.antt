use Rattle.call_json.proofs.JudgedCalls.{texts_have_first_faults}
use Rattle.call_json.proofs.laws.texts_have_first_faults.Goals as goal

pub returns : goal.returns
returns c = texts_have_first_faults
