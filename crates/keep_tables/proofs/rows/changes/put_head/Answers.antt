use Rattle.std.proofs.Common.{refl, ◌∷◌, [], pos}
use Rattle.sqlite.specs.Held.{state}
use Rattle.sqlite.specs.Listing.{understood}
use Rattle.sqlite.proofs.Callers.{statement_of}
use Rattle.sqlite.specs.declared.types.Value.TheVariants.{Int, Text}
use Rattle.keep_tables.specs.Tables.{keeper_schema, head_table, Puts, head_row}
use Rattle.keep_tables.proofs.TextLemmas.{head_terms, head_text, head_is, head_plain}
use Rattle.keep_tables.proofs.RowLemmas.{cast_whole, cast_null}
use Rattle.keep_tables.proofs.StoreLemmas.{inserts, goes, puts}
use Rattle.keep_tables.proofs.rows.changes.put_head.Goals as goal

pub returns-clause-went : goal.returns-clause-went
returns-clause-went g c = λ writing clean.
    let old = state g.S.Store c.args.tx.now.conn.now in
    let new = state g.S.Store c.execute.new.self.conn.now in
    let params = Text c.args.name.now ∷ Int (pos c.args.run) ∷ Int (pos c.args.session) ∷ [] in
    let row = head_row c.args.name.now c.args.run c.args.session in
    let ran = rw (c.params-to_sql.ensures, c.params-to_sql-2.ensures, c.params-to_sql-3.ensures) at (c.execute.ensures.runs clean writing.mode) in
    goes head_text params _ head_is head_plain (Puts 2 row) old new (λ count w.
    let done = inserts 2 head_table refl head_terms 7 params row refl refl (λ db. rw (cast_whole 1, cast_null, cast_whole c.args.run, cast_whole c.args.session, cast_whole 2) refl) old old.now (statement_of head_text (understood keeper_schema head_text)) w.tally new.now writing.schema w.changed in
    (done.0, puts 2 head_table refl row old.now.trees new.now.trees done.1)) c.execute.result writing ran
