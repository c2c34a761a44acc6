use Rattle.std.proofs.Common.{rules, ◌≡◌, inl}
use Rattle.sqlite.specs.Held.{state}
use Rattle.sqlite.proofs.StateLemmas.{survives_weaker}
use Rattle.keep_tables.specs.Tables.{first_schema}
use Rattle.keep_store.proofs.AddLemmas.{then}
use Rattle.keep_store.proofs.adding.add_tasks.Goals as goal

pub returns-clause-made : goal.returns-clause-made
returns-clause-made g c = λ clean.
    let old = state g.S.Store c.args.conn.now in
    let has : old.now.schema ≡ first_schema = search rules in
    then c.make_task_tables.result (λ done. inl (has, done)) (c.make_task_tables.ensures.made clean has)

pub returns-clause-stop : goal.returns-clause-stop
returns-clause-stop g c =
    let old = state g.S.Store c.args.conn.now in
    let new = state g.S.Store c.make_task_tables.new.conn in
    let has : old.now.schema ≡ first_schema = search rules in
    survives_weaker old new _ _ (λ _ db left. let it = left has in (has, it.0, it.1)) c.make_task_tables.ensures.stop
