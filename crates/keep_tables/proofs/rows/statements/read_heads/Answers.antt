use Rattle.std.proofs.Common.{arith, [], refl, sym, subst}
use Rattle.sqlite.specs.Held.{state}
use Rattle.sqlite.specs.State.{HasCleanDisk}
use Rattle.keep_tables.specs.Tables.{IsReady}
use Rattle.sqlite.specs.Listing.{understood}
use Rattle.sqlite.proofs.StateLemmas.{survives_weaker}
use Rattle.sqlite.proofs.Callers.{IsPlain, never_commits}
use Rattle.keep_tables.proofs.TextLemmas.{heads_is, heads_plain, heads_text, head_places, head_names}
use Rattle.keep_tables.proofs.ReadLemmas.{reads, reads_lone}
use Rattle.keep_tables.proofs.rows.statements.read_heads.Goals as goal

pub returns : goal.returns
returns g c =
    let old = state g.S.Store c.args.conn.now in
    let new = state g.S.Store c.query_all.new.self in
    let all = λ (ready : IsReady old) (clean : HasCleanDisk new). reads heads_text 2 head_places [] (λ _. refl) head_names heads_is heads_plain old new c.query_all.result ready (c.query_all.ensures.ok clean) (c.query_all.ensures.err clean) in
    record {
      clean = λ clean. omega (arith, c.query_all.ensures.survives.clean);
      rows = λ ready clean. reads_lone heads_text 2 head_places [] (λ _. refl) head_names heads_is heads_plain old new c.query_all.result ready ready.ours.one_head (all ready clean).0;
      stays = λ ready clean. (all ready clean).1;
      up = λ ready clean. (all ready clean).2;
      quiet = survives_weaker old new _ _ (λ _ db commits ready. never_commits heads_text [] old db (subst (λ s. IsPlain (understood s heads_text)) (sym ready.ours.schema) heads_plain) commits) c.query_all.ensures.survives;
      crash = λ ready. survives_weaker old new _ _ (λ _ db commits. never_commits heads_text [] old db (subst (λ s. IsPlain (understood s heads_text)) (sym ready.ours.schema) heads_plain) commits) c.query_all.ensures.survives;
    }
