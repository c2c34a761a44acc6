use Rattle.std.proofs.Common.{◌≡◌, []}
use Rattle.serde_json.specs.View.{members_view}
use Rattle.step_text.specs.Configs.{agents_in}
use Rattle.step_text.proofs.lines.config.agents_of.Given as goal

abbrev pub invariant-loop-name : goal.invariant-loop-name
invariant-loop-name l = agents_in l.config (members_view l.name-iterator) ≡ agents_in [] (members_view l.members.entries)
