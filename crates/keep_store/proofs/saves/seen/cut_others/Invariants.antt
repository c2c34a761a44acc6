use Rattle.std.proofs.Common.{◌≡◌, ◌≤◌, Some, drop, vec_len}
use Rattle.std.specs.List.{AllByRecursion}
use Rattle.sqlite.specs.Held.{state}
use Rattle.sqlite.specs.State.{HasCleanDisk, Survives}
use Rattle.sqlite_rules.specs.Lists.{Has}
use Rattle.keep_store.specs.SavesKept.{ArePut, HasTasks}
use Rattle.keep_tables.specs.Tables.{IsWriting, WritesOn}
use Rattle.keep_store.proofs.saves.seen.cut_others.Given as goal

abbrev pub decreases-loop-at : goal.decreases-loop-at
decreases-loop-at g l = l.at

abbrev pub invariant-loop-at : goal.invariant-loop-at
invariant-loop-at g l =
    record {
      within : l.at ≤ vec_len l.tasks;
      are_put : ArePut l.tasks.items;
      among : AllByRecursion (Has l.wanted) (drop l.at l.tasks.items);
      same_reference : l.tx.conn.ghost_name ≡ l.fn.tx.conn.ghost_name;
      quiet : Survives (state g.S.Store l.fn.tx.conn.now) (state g.S.Store l.tx.conn.now) (λ _. ⊥);
      went : IsWriting (state g.S.Store l.fn.tx.conn.now) → HasCleanDisk (state g.S.Store l.tx.conn.now) → WritesOn (HasTasks (Some l.fn.tasks.items) l.tasks.items) (state g.S.Store l.fn.tx.conn.now) (state g.S.Store l.tx.conn.now);
    }
