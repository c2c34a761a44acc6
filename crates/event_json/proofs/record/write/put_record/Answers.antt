use Rattle.std.proofs.Common.{rules, ap, ◌∙◌, subst}
use Rattle.std.specs.List.{AllByRecursion}
use Rattle.std.proofs.lemmas.Result.{on_ok_weaker}
use Rattle.serde_json.specs.Data.{string}
use Rattle.serde_json.specs.View.{members_view}
use Rattle.event_json.specs.Texts.{list_data, task_data}
use Rattle.event_json.specs.Written.{IsTask}
use Rattle.event_json.proofs.RecordPuts.{record_put}
use Rattle.event_json.proofs.record.write.put_record.Goals as goal

pub returns-clause-value : goal.returns-clause-value
returns-clause-value c = λ version.
    on_ok_weaker c.put-5.result (λ last. record_put version c.args.durable.now _ _ _ _ _ _ _ _ _ _ _
    (ap members_view c.requires)
    c.in_ok-put.ensures.ok (c.in_ok-name.ensures ∙ ap string c.as_text.ensures.text)
    c.in_ok-put-2.ensures.ok c.from.ensures
    c.in_ok-put-3.ensures.ok c.from-2.ensures
    c.in_ok-put-4.ensures.ok (c.in_ok-tasks.ensures.value ∙ ap (list_data task_data) c.as_slice.ensures)
    last c.in_ok-total.ensures.value) c.put-5.ensures.ok

pub returns-clause-durable : goal.returns-clause-durable
returns-clause-durable c =
    on_ok_weaker c.put-5.result (λ _. record {
      named = c.as_text.ensures.valid;
      total = c.in_ok-total.ensures.ordered;
      session = search rules;
      run = search rules;
      tasks = subst (AllByRecursion IsTask) c.as_slice.ensures c.in_ok-tasks.ensures.are_tasks;
    }) c.put-5.ensures.ok
