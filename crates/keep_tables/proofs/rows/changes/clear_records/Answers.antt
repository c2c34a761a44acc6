use Rattle.std.proofs.Common.{refl, ◌∷◌, [], ◌∙◌}
use Rattle.sqlite.specs.Held.{state}
use Rattle.sqlite.specs.Listing.{understood}
use Rattle.sqlite.proofs.Callers.{statement_of}
use Rattle.sqlite.specs.Term.{col}
use Rattle.keep_tables.specs.Tables.{keeper_schema, record_table, Empties}
use Rattle.keep_tables.proofs.TextLemmas.{query_of, clear_records_text, clear_records_is, clear_records_plain}
use Rattle.keep_tables.proofs.StoreLemmas.{deletes, goes}
use Rattle.keep_tables.proofs.QueryLemmas.{answered, emptied}
use Rattle.keep_tables.proofs.rows.changes.clear_records.Goals as goal

pub returns-clause-went : goal.returns-clause-went
returns-clause-went g c = λ writing clean.
    let old = state g.S.Store c.args.tx.now.conn.now in
    let new = state g.S.Store c.execute.new.self.conn.now in
    let project = col 1 0 ∷ [] in
    goes clear_records_text [] _ clear_records_is clear_records_plain (Empties 0) old new (λ count w.
    let done = deletes 0 record_table refl (query_of 0 [] project) [] old old.now (statement_of clear_records_text (understood keeper_schema clear_records_text)) w.tally new.now writing.schema w.changed in
    let asked = answered 0 [] project [] [] old.now.trees done.1.asked refl done.1.answer in
    (done.0, record { lone = λ one. done.1.left ∙ emptied 0 (old.now.trees 0) done.1.asked asked one; others = done.1.others })) c.execute.result writing (c.execute.ensures.runs clean writing.mode)
