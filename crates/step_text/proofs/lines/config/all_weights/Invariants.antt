use Rattle.std.proofs.Common.{◌≡◌, []}
use Rattle.serde_json.specs.View.{members_view}
use Rattle.step_text.specs.Configs.{weights_in}
use Rattle.step_text.proofs.lines.config.all_weights.Given as goal

abbrev pub invariant-loop-name : goal.invariant-loop-name
invariant-loop-name l = weights_in l.weights (members_view l.name-iterator) ≡ weights_in [] (members_view l.members.entries)
