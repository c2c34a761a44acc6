use Rattle.std.proofs.Common.{◌≡◌, ◌++◌, drop, take}
use Rattle.master_state.specs.Starts.{all_cut_on}
use Rattle.master_state.proofs.registry.starts.SearchHints.cut_on.Given as goal

abbrev pub invariant-loop-i : goal.invariant-loop-i
invariant-loop-i l = l.self-inside.items.items ≡ all_cut_on l.agent l.place (take l.i l.fn.self) ++ drop l.i l.fn.self
