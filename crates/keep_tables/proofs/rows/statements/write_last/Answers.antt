use Rattle.std.proofs.Common.{arith, [], ◌∷◌, refl, codes, pos}
use Rattle.sqlite.specs.Kind.TheVariants.{Integer}
use Rattle.sqlite.specs.declared.types.Value.TheVariants.{Int}
use Rattle.sqlite.specs.Held.{state}
use Rattle.sqlite.proofs.StateLemmas.{survives_weaker}
use Rattle.keep_tables.proofs.TextLemmas.{give_is, give_plain, give_text}
use Rattle.keep_tables.proofs.RowLemmas.{cast_whole}
use Rattle.keep_tables.proofs.StepLemmas.{wrote_if, may_leave}
use Rattle.keep_tables.proofs.ReadLemmas.{execute_stays}
use Rattle.keep_tables.proofs.rows.statements.write_last.Goals as goal

pub returns : goal.returns
returns g c =
    let old = state g.S.Store c.args.conn.now in
    let new = state g.S.Store c.execute.new.self in
    let value = Int (pos c.args.last) in
    let fits = cast_whole c.args.last in
    record {
      clean = λ clean. omega (arith, c.execute.ensures.survives.clean);
      wrote = λ ready clean. wrote_if (codes "run_number") 1 (codes "last") Integer refl value fits refl give_text give_is give_plain old new c.execute.result ready.ours.schema ready.ours.one_run ready.mode
          (rw c.params-to_sql.ensures at (c.execute.ensures.runs clean));
      failed = λ ready clean. execute_stays old new give_text (value ∷ []) c.execute.result ready (rw c.params-to_sql.ensures at (c.execute.ensures.runs clean));
      crash = λ ready. survives_weaker old new _ _ (λ _ db commits. may_leave (codes "run_number") 1 (codes "last") Integer refl value fits refl give_text give_is give_plain old db ready.ours.schema ready.ours.one_run
          (rw c.params-to_sql.ensures at commits)) c.execute.ensures.survives;
    }
