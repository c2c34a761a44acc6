use Rattle.std.proofs.Common.{take}
use Rattle.std.specs.List.{AllByRecursion}
use Rattle.keep_store.specs.SavesKept.{IsPut}
use Rattle.keep_store.specs.Kept.{AreTasksOf}
use Rattle.keep_store.proofs.reading.tasks_in.Given as goal

abbrev pub invariant-loop-row : goal.invariant-loop-row
invariant-loop-row l =
    record {
      read_back : AreTasksOf (take l.row-index l.rows) l.tasks.items;
      are_put : AllByRecursion IsPut l.tasks.items;
    }
