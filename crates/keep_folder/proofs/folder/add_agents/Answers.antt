use Rattle.std.proofs.Common.{rules, ◌<◌, List, IfErr, arith, length, subst, sym}
use Rattle.std.specs.List.{Contains}
use Rattle.std.proofs.lemmas.Result.{IfErr-weaker}
use Rattle.master_agents.specs.declared.config.ConfiguredAgent.{ConfiguredAgent}
use Rattle.keep_folder.specs.Refusals.{IsFileRefusal, IsFolderRefusal}
use Rattle.keep_folder.proofs.Refused.{file_refused, no_cluster_refused}
use Rattle.keep_folder.proofs.folder.add_agents.Goals as goal

pub returns-in_err-add_agent-clause-refused : goal.returns-in_err-add_agent-clause-refused
returns-in_err-add_agent-clause-refused c =
    let agents = c.args.config.now in
    let agent = c.agent-item.result in
    let i = c.loop-agent.agent-index in
    let items = c.agents-agent-items.result.now in
    let here : i < length items = omega arith in
    let among : Contains agents agent = subst (λ (as_ : List ConfiguredAgent). Contains as_ agent) c.agents-agent-items.ensures.agents (i, here, sym c.agent-item.is) in
    let of_file : IfErr c.from_residual.result (IsFileRefusal agent) = search rules in
    IfErr-weaker c.from_residual.result (IsFileRefusal agent) (IsFolderRefusal agents) (λ fault. file_refused agents agent fault among) of_file

pub returns-clause-refused : goal.returns-clause-refused
returns-clause-refused c =
    IfErr-weaker c.check_opening.result _ (IsFolderRefusal c.args.config.now) (λ fault h. no_cluster_refused c.args.config.now fault h.0) c.check_opening.ensures.refused
