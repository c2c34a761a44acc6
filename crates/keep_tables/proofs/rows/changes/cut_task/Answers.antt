use Rattle.std.proofs.Common.{refl, ◌≡◌, ◌∷◌, [], pos, ap, ◌∙◌, to_z, of_z, w64, ◌<◌}
use Rattle.std.proofs.lemmas.Int.{to_z_pos}
use Rattle.sqlite_value.specs.Value.{owned}
use Rattle.sqlite.specs.Held.{state}
use Rattle.sqlite.specs.Term.{col}
use Rattle.sqlite.specs.declared.types.Value.TheVariants.{Int}
use Rattle.sqlite.specs.Listing.{understood}
use Rattle.sqlite.proofs.Callers.{statement_of}
use Rattle.keep_tables.specs.Tables.{keeper_schema, task_table, Cuts, place_of}
use Rattle.keep_tables.proofs.TextLemmas.{query_of, is_place, cut_text, cut_is, cut_plain}
use Rattle.keep_tables.proofs.StoreLemmas.{deletes, goes}
use Rattle.keep_tables.proofs.QueryLemmas.{answered, cuts}
use Rattle.keep_tables.proofs.rows.changes.cut_task.Goals as goal

pub returns-clause-went : goal.returns-clause-went
returns-clause-went g c = λ writing clean.
    let old = state g.S.Store c.args.tx.now.conn.now in
    let new = state g.S.Store c.execute.new.self.conn.now in
    let place = place_of c.args.key in
    let small : place < 9223372036854775808 = rw c.place_of-place.ensures at c.place_of-place.type_inv in
    let whole : to_z w64 (of_z w64 c.place_of-place.result) ≡ pos place = rw c.place_of-place.ensures (to_z_pos w64 place small) in
    let value : owned c.params-to_sql.result ≡ Int (pos place) = c.params-to_sql.ensures ∙ ap Int whole in
    goes cut_text (Int (pos place) ∷ []) _ cut_is cut_plain (Cuts place) old new (λ count w. let done = deletes 3 task_table refl (query_of 3 (is_place ∷ []) (col 1 0 ∷ [])) (Int (pos place) ∷ []) old old.now (statement_of cut_text (understood keeper_schema cut_text)) w.tally new.now writing.schema w.changed in
    (done.0, cuts place old.now.trees new.now.trees done.1.asked (answered 3 (is_place ∷ []) (col 1 0 ∷ []) [] (Int (pos place) ∷ []) old.now.trees done.1.asked refl done.1.answer) done.1.left done.1.others)) c.execute.result writing (rw value at (c.execute.ensures.runs clean writing.mode))
