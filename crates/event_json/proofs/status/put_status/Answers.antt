use Rattle.std.proofs.Common.{ap, ◌∙◌, option_map}
use Rattle.std.proofs.lemmas.Result.{on_ok_weaker}
use Rattle.serde_json.specs.Data.{string}
use Rattle.names_core.specs.States.{state_text}
use Rattle.names_core.specs.Updates.{update_text}
use Rattle.event_json.specs.Ids.{id_data}
use Rattle.event_json.proofs.Puts.{status_put}
use Rattle.event_json.proofs.status.put_status.Goals as goal

pub returns-clause-value : goal.returns-clause-value
returns-clause-value c =
    let status = c.args.status.now in
    on_ok_weaker c.put_uuid.result (λ last. status_put status.agent (state_text status.state) status.task (option_map update_text status.update) _ _ _ _ _ _
    c.in_ok-put_agent.ensures.value
    c.in_ok-put.ensures.ok (c.in_ok-state.ensures ∙ ap string c.as_text.ensures)
    c.in_ok-put-2.ensures.ok (c.in_ok-task.ensures ∙ ap id_data c.as_text-2.ensures.text)
    last) c.put_uuid.ensures
