use Rattle.std.proofs.Common.{arith, [], ◌∷◌, refl, codes, sym, subst}
use Rattle.sqlite.specs.Held.{state}
use Rattle.sqlite.specs.Term.{col}
use Rattle.sqlite.specs.Listing.{understood}
use Rattle.sqlite.proofs.StateLemmas.{survives_weaker}
use Rattle.sqlite.proofs.Callers.{IsPlain, never_commits}
use Rattle.keep_tables.proofs.TextLemmas.{run_ids_is, run_ids_plain, run_ids_text}
use Rattle.keep_tables.proofs.ReadLemmas.{rows_if, unchanged_if}
use Rattle.keep_tables.proofs.rows.statements.read_run_ids.Goals as goal

pub returns : goal.returns
returns g c =
    let old = state g.S.Store c.args.conn.now in
    let new = state g.S.Store c.query_all.new.self in
    record {
      clean = λ clean. omega (arith, c.query_all.ensures.survives.clean);
      rows = λ has clean. rows_if run_ids_text 1 (col 1 0 ∷ []) [] (λ _. refl) (codes "id" ∷ []) run_ids_is run_ids_plain old new c.query_all.result has (c.query_all.ensures.ok clean);
      same = λ has clean. unchanged_if run_ids_text 1 (col 1 0 ∷ []) [] (λ _. refl) (codes "id" ∷ []) run_ids_is run_ids_plain old new c.query_all.result has (c.query_all.ensures.ok clean);
      quiet = survives_weaker old new _ _ (λ _ db commits has. never_commits run_ids_text [] old db (subst (λ s. IsPlain (understood s run_ids_text)) (sym has) run_ids_plain) commits) c.query_all.ensures.survives;
    }
