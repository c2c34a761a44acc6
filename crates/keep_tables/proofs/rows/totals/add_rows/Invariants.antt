use Rattle.std.proofs.Common.{◌≡◌, take}
use Rattle.sqlite.specs.Held.{state}
use Rattle.sqlite.specs.State.{HasCleanDisk, Survives}
use Rattle.keep_tables.specs.Tables.{IsWriting, WritesOn}
use Rattle.keep_tables.specs.Totals.{AreNamed, PutsAmounts}
use Rattle.keep_tables.proofs.rows.totals.add_rows.Given as goal

abbrev pub invariant-loop-row : goal.invariant-loop-row
invariant-loop-row g l =
    record {
      place : l.place ≡ l.row-index;
      named : AreNamed (take l.row-index l.rows);
      same_reference : l.tx.conn.ghost_name ≡ l.fn.tx.conn.ghost_name;
      quiet : Survives (state g.S.Store l.fn.tx.conn.now) (state g.S.Store l.tx.conn.now) (λ _. ⊥);
      went : IsWriting (state g.S.Store l.fn.tx.conn.now) → HasCleanDisk (state g.S.Store l.tx.conn.now) → WritesOn (PutsAmounts (take l.row-index l.rows)) (state g.S.Store l.fn.tx.conn.now) (state g.S.Store l.tx.conn.now);
    }
