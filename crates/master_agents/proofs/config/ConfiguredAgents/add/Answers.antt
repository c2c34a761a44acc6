use Rattle.std.proofs.Common.{◌≡◌, ◌≤◌, arith, false, ap, sym, ◌∙◌, subst}
use Rattle.master_agents.specs.Configs.{has_name, most_agents}
use Rattle.master_agents.specs.declared.config.ConfiguredAgent.{ConfiguredAgent}
use Rattle.master_agents.proofs.Naming.{with_length, with_ordered}
use Rattle.master_agents.proofs.config.ConfiguredAgents.add.Goals as goal

pub invariant_of-self-2 : goal.invariant_of-self-2
invariant_of-self-2 c =
    let agent : ConfiguredAgent = record { name = c.args.name; total = c.args.total } in
    let new : has_name c.args.name c.self.inside.agents.items ≡ false = sym (c.has_name.ensures ∙ ap (has_name c.args.name) c.deref.ensures.value) ∙ c.if-has_name.false in
    rw c.in_ok-add_in.ensures.ok (with_ordered agent c.self.inside.agents.items c.self.invariant.0 new, subst (λ n. n ≤ most_agents) (sym (with_length agent c.self.inside.agents.items)) (omega (arith, c.if-len-ge-MOST_AGENTS.false, c.len.ensures)))
