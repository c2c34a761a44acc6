use Rattle.std.proofs.Common.{arith, [], ◌∷◌, codes, refl, sym, subst}
use Rattle.sqlite.specs.Held.{state}
use Rattle.sqlite.specs.State.{HasCleanDisk}
use Rattle.keep_tables.specs.Tables.{IsReady}
use Rattle.sqlite.specs.Listing.{understood}
use Rattle.sqlite.proofs.StateLemmas.{survives_weaker}
use Rattle.sqlite.proofs.Callers.{IsPlain, never_commits}
use Rattle.keep_tables.proofs.TextLemmas.{amounts_is, amounts_plain, amounts_text, amount_columns}
use Rattle.keep_tables.proofs.ReadLemmas.{reads}
use Rattle.keep_tables.proofs.rows.statements.read_amounts.Goals as goal

pub returns : goal.returns
returns g c =
    let old = state g.S.Store c.args.conn.now in
    let new = state g.S.Store c.query_all.new.self in
    let all = λ (ready : IsReady old) (clean : HasCleanDisk new). reads amounts_text 5 amount_columns [] (λ _. refl) (codes "name" ∷ codes "amount" ∷ []) amounts_is amounts_plain old new c.query_all.result ready (c.query_all.ensures.ok clean) (c.query_all.ensures.err clean) in
    record {
      clean = λ clean. omega (arith, c.query_all.ensures.survives.clean);
      rows = λ ready clean. (all ready clean).0;
      stays = λ ready clean. (all ready clean).1;
      up = λ ready clean. (all ready clean).2;
      quiet = survives_weaker old new _ _ (λ _ db commits ready. never_commits amounts_text [] old db (subst (λ s. IsPlain (understood s amounts_text)) (sym ready.ours.schema) amounts_plain) commits) c.query_all.ensures.survives;
      crash = λ ready. survives_weaker old new _ _ (λ _ db commits. never_commits amounts_text [] old db (subst (λ s. IsPlain (understood s amounts_text)) (sym ready.ours.schema) amounts_plain) commits) c.query_all.ensures.survives;
    }
