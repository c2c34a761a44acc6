use Rattle.std.proofs.Common.{◌≡◌, ◌++◌, take, flat_map}
use Rattle.master_agents.specs.ByName.{mails_at_tick}
use Rattle.master_agents.proofs.by_name.send_all.Given as goal

abbrev pub invariant-loop-entry : goal.invariant-loop-entry
invariant-loop-entry l = l.mails ≡ l.fn.mails ++ flat_map (mails_at_tick l.run) (take l.entry-index l.entries)
