-- The calls that name a framework and nothing else.
use Rattle.std.specs.Prelude.{Result, Ok}
use Rattle.serde_json.specs.Data.{Data}
use Rattle.call_json.specs.Answers.{◌>>=◌}
use Rattle.call_json.specs.Ids.{framework_of}
use Rattle.call_json.specs.declared.members.fault.Refusal.{Refusal}
use Rattle.messages.specs.declared.call.Call.{Call}
use Rattle.messages.specs.declared.call.Call.TheVariants.{Teardown, Revive, Suppress}

unfoldable pub teardown_of : Data → Result Call Refusal
teardown_of d = framework_of d >>= λ framework. Ok (Teardown framework)

unfoldable pub revive_of : Data → Result Call Refusal
revive_of d = framework_of d >>= λ framework. Ok (Revive framework)

unfoldable pub suppress_of : Data → Result Call Refusal
suppress_of d = framework_of d >>= λ framework. Ok (Suppress framework)
