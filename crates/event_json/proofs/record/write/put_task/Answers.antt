use Rattle.std.proofs.Common.{ap, ◌∙◌, subst}
use Rattle.std.specs.List.{AllByRecursion}
use Rattle.std.proofs.lemmas.Result.{on_ok_weaker}
use Rattle.serde_json.specs.Data.{string}
use Rattle.serde_json.specs.View.{members_view}
use Rattle.names_core.specs.Ids.{InRange, id_text}
use Rattle.names_core.specs.States.{state_text}
use Rattle.event_json.specs.Texts.{whole, list_data}
use Rattle.event_json.proofs.RecordPuts.{task_put}
use Rattle.event_json.proofs.record.write.put_task.Goals as goal

pub returns-clause-value : goal.returns-clause-value
returns-clause-value c =
    on_ok_weaker c.put-3.result (λ last. task_put c.args.task.now _ _ _ _ _ _ _ _
    (ap members_view c.requires)
    c.in_ok-put_job.ensures.members
    c.in_ok-put.ensures.ok (c.from-acked.ensures ∙ ap whole c.acknowledged.ensures)
    c.in_ok-put-2.ensures.ok (c.in_ok-offers.ensures.value ∙ ap (list_data (λ offer. string (id_text 79 offer))) c.as_slice.ensures)
    last (c.in_ok-updates.ensures ∙ ap (list_data (λ state. string (state_text state))) c.states.ensures.states)) c.put-3.ensures.ok

pub returns-clause-is_task : goal.returns-clause-is_task
returns-clause-is_task c =
    let job = c.in_ok-put_job.ensures.is_job in
    on_ok_weaker c.put-3.result (λ _. record {
      key = job.0;
      framework = job.1;
      named = job.2;
      resources = job.3;
      offers = subst (AllByRecursion InRange) c.as_slice.ensures c.in_ok-offers.ensures.in_range;
      updates = c.states.ensures.valid;
    }) c.put-3.ensures.ok
