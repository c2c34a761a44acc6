use Rattle.call_json.proofs.ReadCalls.{values_are_calls}
use Rattle.call_json.proofs.laws.values_are_calls.Goals as goal

pub returns : goal.returns
returns c = values_are_calls
