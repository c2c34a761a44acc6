use Rattle.std.proofs.Common.{arith, refl, rules, true, ◌≡◌, OnOk}
use Rattle.sqlite.specs.Held.{state}
use Rattle.sqlite.specs.Tree.{Trees}
use Rattle.sqlite.specs.State.{HasCleanDisk}
use Rattle.sqlite.proofs.Callers.{survives_begin}
use Rattle.sqlite.proofs.StateLemmas.{survives_then}
use Rattle.keep_tables.specs.Tables.{AddsTotals, IsCommitted, keeper_schema, second_schema}
use Rattle.keep_tables.proofs.MakeLemmas.{creates_total, total_left, total_made_if}
use Rattle.keep_tables.proofs.rows.statements.make_total_table.Goals as goal

pub returns-clause-made : goal.returns-clause-made
returns-clause-made g c = λ clean has.
    let old = state g.S.Store c.args.conn.now in
    let begun = state g.S.Store (record c.args.conn.now { in_transaction = true }) in
    let end = state g.S.Store c.execute.new.self.conn.now in
    let new = state g.S.Store c.commit.new.self.0 in
    let same : c.commit.new.self.0 ≡ c.conn-2-1.given.0 = search rules in
    let clean2 : HasCleanDisk new = rw same clean in
    let clean1 : HasCleanDisk end = omega (arith, c.commit.ensures.survives.clean) in
    let ran = rw c.transaction-tx.ensures.begun at c.in_ok-execute.ensures.runs in
    let total = creates_total begun end c.in_ok-execute.field-0 has (ran clean1 refl) in
    let made : OnOk c.commit.result (IsCommitted keeper_schema AddsTotals old new) = total_made_if old begun end new c.commit.result refl total (c.commit.ensures.ok clean2) in
    rw same at made

pub returns-clause-stop : goal.returns-clause-stop
returns-clause-stop g c =
    let old = state g.S.Store c.args.conn.now in
    let begun = state g.S.Store (record c.args.conn.now { in_transaction = true }) in
    let end = state g.S.Store c.execute.new.self.conn.now in
    let new = state g.S.Store c.conn-2-1.given.0 in
    let same : c.commit.new.self.0 ≡ c.conn-2-1.given.0 = search rules in
    let ran = rw c.transaction-tx.ensures.begun at c.in_ok-execute.ensures.runs in
    let first = rw c.transaction-tx.ensures.begun at c.in_ok-execute.ensures.survives in
    let last = rw same at c.commit.ensures.survives in
    let left = λ (clean : HasCleanDisk new) (db : Trees) (is : db ≡ end.now.trees) (has : old.now.schema ≡ second_schema). (
    let clean1 : HasCleanDisk end = omega (arith, last.clean) in
    let total = creates_total begun end c.in_ok-execute.field-0 has (ran clean1 refl) in
    total_left old begun end db refl total is) in
    survives_begin g.S.Store c.args.conn.now new _ (survives_then begun end new _ _ _ (λ _ db none. absurd none) left first last)
