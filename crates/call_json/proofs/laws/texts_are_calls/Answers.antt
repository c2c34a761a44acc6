use Rattle.call_json.proofs.ReadCalls.{texts_are_calls}
use Rattle.call_json.proofs.laws.texts_are_calls.Goals as goal

pub returns : goal.returns
returns c = texts_are_calls
