use Rattle.std.proofs.Common.{◌∙◌, subst, List, ℕ}
use Rattle.std.specs.Str.{IsUtf8}
use Rattle.sqlite.specs.Held.{state}
use Rattle.event_json.specs.Texts.{task_form}
use Rattle.std.proofs.lemmas.Str.{is_utf8-from_IsUtf8}
use Rattle.keep_tables.specs.Tables.{Puts, WritesOn, task_row}
use Rattle.keep_store.proofs.SaveLemmas.{adds_one}
use Rattle.keep_store.proofs.saves.seen.add_task.Goals as goal

pub returns-in-Ok-clause-went : goal.returns-in-Ok-clause-went
returns-in-Ok-clause-went g c = λ writing clean.
    let task = c.args.task.now in
    let old = state g.S.Store c.args.tx.now.conn.now in
    let new = state g.S.Store c.put_task.new.tx.conn.now in
    let form = task_form task in
    let utf8 : ∥ IsUtf8 form ∥₁ = subst (λ (text : List ℕ). ∥ IsUtf8 text ∥₁) c.in_ok-body.ensures.text c.in_ok-body.body.ok in
    let done : WritesOn (Puts 3 (task_row task.job.key form)) old new = rw (c.as_str.ensures.value, c.in_ok-body.ensures.text) at (c.in-Ok.ensures.went writing clean) in
    record { writing = done.writing; committed = done.committed; changes = adds_one task old.now.trees new.now.trees c.in_ok-body.ensures.is_task utf8 done.changes }

pub returns-in-Ok-clause-is_put : goal.returns-in-Ok-clause-is_put
returns-in-Ok-clause-is_put g c = record {
  is_task = c.in_ok-body.ensures.is_task;
  utf8 = is_utf8-from_IsUtf8 (task_form c.args.task.now) (subst IsUtf8 (c.as_str.ensures.value ∙ c.in_ok-body.ensures.text) c.as_str.utf8);
}
