use Rattle.std.proofs.Common.{refl, ◌∷◌, []}
use Rattle.sqlite.specs.Held.{state}
use Rattle.sqlite.specs.Listing.{understood}
use Rattle.sqlite.proofs.Callers.{statement_of}
use Rattle.sqlite.specs.Term.{col}
use Rattle.keep_tables.specs.Tables.{keeper_schema, task_table, SparesOthers}
use Rattle.keep_tables.proofs.TextLemmas.{query_of, clear_tasks_text, clear_tasks_is, clear_tasks_plain}
use Rattle.keep_tables.proofs.StoreLemmas.{deletes, goes}
use Rattle.keep_tables.proofs.rows.changes.clear_tasks.Goals as goal

pub returns-clause-went : goal.returns-clause-went
returns-clause-went g c = λ writing clean.
    let old = state g.S.Store c.args.tx.now.conn.now in
    let new = state g.S.Store c.execute.new.self.conn.now in
    goes clear_tasks_text [] _ clear_tasks_is clear_tasks_plain (SparesOthers 3) old new (λ count w.
    let done = deletes 3 task_table refl (query_of 3 [] (col 1 0 ∷ [])) [] old old.now (statement_of clear_tasks_text (understood keeper_schema clear_tasks_text)) w.tally new.now writing.schema w.changed in
    (done.0, done.1.others)) c.execute.result writing (c.execute.ensures.runs clean writing.mode)
