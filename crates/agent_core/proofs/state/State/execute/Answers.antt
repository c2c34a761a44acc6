use Rattle.std.proofs.Common.{◌≡◌, true, false, ◌&&◌, refl}
use Rattle.std.proofs.lemmas.Result.{err_from_is_err_and}
use Rattle.std.specs.List.{list_any}
use Rattle.stream_core.specs.Updates.{is_full}
use Rattle.cluster_model.specs.Agents.{is_task, has_ended, needs_place}
use Rattle.agent_core.proofs.state.State.execute.Goals as goal

pub returns : goal.returns
returns c =
    let tasks = c.args.self.now.durable.tasks in
    let key = c.args.key in
    let known : list_any (is_task key) tasks ≡ true = cc in
    let live : list_any (λ t. is_task key t && has_ended t) tasks ≡ false = cc in
    let placed : (needs_place c.args.state && list_any (λ t. is_task key t && is_full t.updates) tasks) ≡ false = cc in
    let told = c.in_ok-with_state.ensures in
    rw (told, known, live, placed) refl

pub returns-in_err-with_state : goal.returns-in_err-with_state
returns-in_err-with_state c =
    let tasks = c.args.self.now.durable.tasks in
    let key = c.args.key in
    let known : list_any (is_task key) tasks ≡ true = cc in
    let live : list_any (λ t. is_task key t && has_ended t) tasks ≡ false = cc in
    let placed : (needs_place c.args.state && list_any (λ t. is_task key t && is_full t.updates) tasks) ≡ false = cc in
    let p = err_from_is_err_and c.from_residual.result c.from_residual.ensures.1 in
    rw (p.1, p.2, known, live, placed) refl
