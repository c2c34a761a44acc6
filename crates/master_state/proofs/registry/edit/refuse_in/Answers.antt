use Rattle.std.proofs.Common.{set, ap, sym, ◌∙◌, rules}
use Rattle.messages.specs.declared.framework.Framework.{Framework}
use Rattle.master_state.specs.Frameworks.{with_filter}
use Rattle.master_state.proofs.Ordered.{ids_set, streams_set}
use Rattle.master_state.proofs.OneRole.{roles_set}
use Rattle.master_state.proofs.Placed.{changes_there, changes_nowhere}
use Rattle.master_state.proofs.registry.edit.refuse_in.Goals as goal

pub returns-in_default-clause-ok : goal.returns-in_default-clause-ok
returns-in_default-clause-ok c = sym (changes_nowhere (with_filter c.args.now c.args.seconds c.args.agent.now c.args.refused.now) c.args.id c.args.frameworks.now.items (sym (rw c.deref.ensures.value at c.place_with.ensures) ∙ c.in_default.is))

pub returns-in_err-refuse_one-clause-ids : goal.returns-in_err-refuse_one-clause-ids
returns-in_err-refuse_one-clause-ids c = ids_set c.args.frameworks.now.items c.in-Some.place c.refuse_one.new.framework c.index_mut.result.now (search rules) (search rules)

pub returns-in_err-refuse_one-clause-streams : goal.returns-in_err-refuse_one-clause-streams
returns-in_err-refuse_one-clause-streams c = streams_set c.args.frameworks.now.items c.in-Some.place c.refuse_one.new.framework c.index_mut.result.now (search rules) (search rules)

pub returns-clause-ok : goal.returns-clause-ok
returns-clause-ok c =
    let fs = c.args.frameworks.now.items in
    let at = sym (rw c.deref.ensures.value at c.place_with.ensures) ∙ c.in-Some.is in
    ap (λ (f : Framework). set fs c.in-Some.place f) c.in_ok-refuse_one.ensures.ok
    ∙ changes_there (with_filter c.args.now c.args.seconds c.args.agent.now c.args.refused.now) c.args.id fs c.in-Some.place c.index_mut.result.now c.requires at c.index_mut.ensures.value

pub returns-clause-ids : goal.returns-clause-ids
returns-clause-ids c = ids_set c.args.frameworks.now.items c.in-Some.place c.refuse_one.new.framework c.index_mut.result.now (search rules) (search rules)

pub returns-clause-streams : goal.returns-clause-streams
returns-clause-streams c = streams_set c.args.frameworks.now.items c.in-Some.place c.refuse_one.new.framework c.index_mut.result.now (search rules) (search rules)

pub returns-in_err-refuse_one-clause-roles : goal.returns-in_err-refuse_one-clause-roles
returns-in_err-refuse_one-clause-roles c = roles_set c.args.frameworks.now.items c.in-Some.place c.refuse_one.new.framework c.index_mut.result.now (search rules) (search rules)

pub returns-clause-roles : goal.returns-clause-roles
returns-clause-roles c = roles_set c.args.frameworks.now.items c.in-Some.place c.refuse_one.new.framework c.index_mut.result.now (search rules) (search rules)
