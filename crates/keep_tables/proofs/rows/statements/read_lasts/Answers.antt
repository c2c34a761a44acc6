use Rattle.std.proofs.Common.{arith, [], ◌∷◌, refl, codes, sym, subst}
use Rattle.sqlite.specs.Held.{state}
use Rattle.sqlite.specs.State.{HasCleanDisk}
use Rattle.sqlite.specs.Term.{col}
use Rattle.keep_tables.specs.Tables.{IsReady}
use Rattle.sqlite.specs.Listing.{understood}
use Rattle.sqlite.proofs.StateLemmas.{survives_weaker}
use Rattle.sqlite.proofs.Callers.{IsPlain, never_commits}
use Rattle.keep_tables.proofs.TextLemmas.{lasts_is, lasts_plain, lasts_text}
use Rattle.keep_tables.proofs.ReadLemmas.{reads, reads_lone}
use Rattle.keep_tables.proofs.rows.statements.read_lasts.Goals as goal

pub returns : goal.returns
returns g c =
    let old = state g.S.Store c.args.conn.now in
    let new = state g.S.Store c.query_all.new.self in
    let all = λ (ready : IsReady old) (clean : HasCleanDisk new). reads lasts_text 1 (col 1 2 ∷ []) [] (λ _. refl) (codes "last" ∷ []) lasts_is lasts_plain old new c.query_all.result ready (c.query_all.ensures.ok clean) (c.query_all.ensures.err clean) in
    record {
      clean = λ clean. omega (arith, c.query_all.ensures.survives.clean);
      rows = λ ready clean. reads_lone lasts_text 1 (col 1 2 ∷ []) [] (λ _. refl) (codes "last" ∷ []) lasts_is lasts_plain old new c.query_all.result ready ready.ours.one_run (all ready clean).0;
      stays = λ ready clean. (all ready clean).1;
      up = λ ready clean. (all ready clean).2;
      quiet = survives_weaker old new _ _ (λ _ db commits ready. never_commits lasts_text [] old db (subst (λ s. IsPlain (understood s lasts_text)) (sym ready.ours.schema) lasts_plain) commits) c.query_all.ensures.survives;
      crash = λ ready. survives_weaker old new _ _ (λ _ db commits. never_commits lasts_text [] old db (subst (λ s. IsPlain (understood s lasts_text)) (sym ready.ours.schema) lasts_plain) commits) c.query_all.ensures.survives;
    }
