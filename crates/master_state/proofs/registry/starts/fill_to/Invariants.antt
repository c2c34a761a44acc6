use Rattle.std.proofs.Common.{List}
use Rattle.messages.specs.declared.framework.Framework.{Framework}
use Rattle.master_state.specs.Starts.{AreStarts}
use Rattle.master_state.proofs.registry.starts.fill_to.Given as goal

abbrev pub invariant-loop : goal.invariant-loop
invariant-loop l = (fs : List Framework) → AreStarts fs l.fn.items.items → AreStarts fs l.items.items
