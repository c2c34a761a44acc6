use Rattle.std.proofs.Common.{[], ◌∷◌, refl, codes}
use Rattle.sqlite.specs.Held.{state}
use Rattle.sqlite.specs.Term.{col}
use Rattle.keep_tables.proofs.TextLemmas.{amount_places_is, amount_places_plain, amount_places_text}
use Rattle.keep_tables.proofs.ReadLemmas.{rows_if, asks}
use Rattle.keep_tables.proofs.rows.changes.read_amount_places.Goals as goal

pub returns-clause-rows : goal.returns-clause-rows
returns-clause-rows g c = λ writing clean.
    rows_if amount_places_text 5 (col 1 0 ∷ []) [] (λ _. refl) (codes "rowid" ∷ []) amount_places_is amount_places_plain (state g.S.Store c.args.tx.now.conn.now) (state g.S.Store c.query_all.new.self.conn.now) c.query_all.result writing.schema (c.query_all.ensures.ok clean)

pub returns-clause-went : goal.returns-clause-went
returns-clause-went g c = λ writing clean.
    asks amount_places_text 5 (col 1 0 ∷ []) [] (λ _. refl) (codes "rowid" ∷ []) amount_places_is amount_places_plain (state g.S.Store c.args.tx.now.conn.now) (state g.S.Store c.query_all.new.self.conn.now) c.query_all.result writing (c.query_all.ensures.ok clean) (c.query_all.ensures.err clean)
