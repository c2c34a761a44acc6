use Rattle.std.proofs.Common.{◌≡◌, map, take}
use Rattle.serde_json.specs.Data.{string}
use Rattle.serde_json.specs.View.{view}
use Rattle.names_core.specs.States.{state_text}
use Rattle.event_json.proofs.record.write.states_value.Given as goal

abbrev pub invariant-loop-state : goal.invariant-loop-state
invariant-loop-state l = map view l.values.items ≡ map (λ state. string (state_text state)) (take l.state-index l.states)
