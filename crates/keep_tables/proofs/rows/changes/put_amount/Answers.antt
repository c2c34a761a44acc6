use Rattle.std.proofs.Common.{refl, ◌≡◌, ◌∷◌, [], pos, ap, ◌∙◌, to_z, of_z, w64, ◌<◌, arith}
use Rattle.std.proofs.lemmas.Int.{to_z_pos}
use Rattle.sqlite_value.specs.Value.{owned}
use Rattle.sqlite.specs.Held.{state}
use Rattle.sqlite.specs.Listing.{understood}
use Rattle.sqlite.proofs.Callers.{statement_of}
use Rattle.sqlite.specs.declared.types.Value.TheVariants.{Int, Text}
use Rattle.keep_tables.specs.Tables.{keeper_schema, total_table, Puts, amount_row}
use Rattle.keep_tables.proofs.TextLemmas.{amount_terms, put_amount_text, put_amount_is, put_amount_plain}
use Rattle.keep_tables.proofs.RowLemmas.{cast_whole}
use Rattle.keep_tables.proofs.StoreLemmas.{inserts, goes, puts}
use Rattle.keep_tables.proofs.rows.changes.put_amount.Goals as goal

pub returns-clause-went : goal.returns-clause-went
returns-clause-went g c = λ writing clean.
    let old = state g.S.Store c.args.tx.now.conn.now in
    let new = state g.S.Store c.execute.new.self.conn.now in
    let row = amount_row c.args.place c.args.name.now c.args.amount in
    let small : c.args.amount < 9223372036854775808 = omega (arith, c.requires) in
    let whole : to_z w64 (of_z w64 (pos c.args.amount)) ≡ pos c.args.amount = to_z_pos w64 c.args.amount small in
    let params = Int (pos c.args.place) ∷ Text c.args.name.now ∷ Int (pos c.args.amount) ∷ [] in
    let value : owned c.params-to_sql-3.result ≡ Int (pos c.args.amount) = c.params-to_sql-3.ensures ∙ ap Int whole in
    let ran = rw (c.params-to_sql.ensures, c.params-to_sql-2.ensures, value) at (c.execute.ensures.runs clean writing.mode) in
    goes put_amount_text params _ put_amount_is put_amount_plain (Puts 5 row) old new (λ count w.
    let done = inserts 4 total_table refl amount_terms 3 params row refl refl (λ db. rw (cast_whole c.args.place, cast_whole c.args.amount) refl) old old.now (statement_of put_amount_text (understood keeper_schema put_amount_text)) w.tally new.now writing.schema w.changed in
    (done.0, puts 4 total_table refl row old.now.trees new.now.trees done.1)) c.execute.result writing ran
