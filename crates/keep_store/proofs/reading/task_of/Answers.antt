use Rattle.std.proofs.Common.{subst}
use Rattle.std.specs.Str.{IsUtf8}
use Rattle.std.proofs.lemmas.Str.{is_utf8-from_IsUtf8}
use Rattle.event_json.specs.Texts.{task_form}
use Rattle.keep_store.proofs.reading.task_of.Goals as goal

pub returns-in-Ok-clause-is_put : goal.returns-in-Ok-clause-is_put
returns-in-Ok-clause-is_put c = record {
  is_task = c.in-Ok.ensures.is_task;
  utf8 = is_utf8-from_IsUtf8 (task_form c.in-Ok.task) (subst IsUtf8 c.in-Ok.ensures.form c.utf8.text);
}
