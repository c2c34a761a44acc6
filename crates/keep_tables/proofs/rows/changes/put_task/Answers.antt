use Rattle.std.proofs.Common.{refl, ◌≡◌, ◌∷◌, [], pos, ap, ◌∙◌, to_z, of_z, w64, ◌<◌, ℕ}
use Rattle.std.proofs.lemmas.Int.{to_z_pos}
use Rattle.sqlite_value.specs.Value.{owned}
use Rattle.sqlite.specs.Held.{state}
use Rattle.sqlite.specs.Listing.{understood}
use Rattle.sqlite.proofs.Callers.{statement_of}
use Rattle.sqlite.specs.declared.types.Value.TheVariants.{Int, Text}
use Rattle.keep_tables.specs.Tables.{keeper_schema, task_table, Puts, place_of, task_row}
use Rattle.keep_tables.proofs.TextLemmas.{task_terms, put_text, put_is, put_plain}
use Rattle.keep_tables.proofs.RowLemmas.{cast_whole}
use Rattle.keep_tables.proofs.StoreLemmas.{inserts, goes, puts}
use Rattle.keep_tables.proofs.rows.changes.put_task.Goals as goal

pub returns-clause-went : goal.returns-clause-went
returns-clause-went g c = λ writing clean.
    let old = state g.S.Store c.args.tx.now.conn.now in
    let new = state g.S.Store c.execute.new.self.conn.now in
    let key = c.args.key in
    let place = place_of key in
    let row = task_row key c.args.body.now in
    let small : place < 9223372036854775808 = rw c.place_of-place.ensures at c.place_of-place.type_inv in
    let whole : to_z w64 (of_z w64 c.place_of-place.result) ≡ pos place = rw c.place_of-place.ensures (to_z_pos w64 place small) in
    let params = Int (pos place) ∷ Int (pos key.run) ∷ Int (pos key.n) ∷ Text c.args.body.now ∷ [] in
    let value : owned c.params-to_sql.result ≡ Int (pos place) = c.params-to_sql.ensures ∙ ap Int whole in
    let run : owned c.params-to_sql-2.result ≡ Int (pos key.run) = c.params-to_sql-2.ensures ∙ ap (λ (n : ℕ). Int (pos n)) (c.from.ensures ∙ c.run.ensures) in
    let number : owned c.params-to_sql-3.result ≡ Int (pos key.n) = c.params-to_sql-3.ensures ∙ ap (λ (n : ℕ). Int (pos n)) c.number.ensures in
    let ran = rw (value, run, number, c.params-to_sql-4.ensures) at (c.execute.ensures.runs clean writing.mode) in
    goes put_text params _ put_is put_plain (Puts 3 row) old new (λ count w.
    let done = inserts 3 task_table refl task_terms 4 params row refl refl (λ db. rw (cast_whole place, cast_whole key.run, cast_whole key.n) refl) old old.now (statement_of put_text (understood keeper_schema put_text)) w.tally new.now writing.schema w.changed in
    (done.0, puts 3 task_table refl row old.now.trees new.now.trees done.1)) c.execute.result writing ran
