use Rattle.std.proofs.Common.{set, ap, sym, ◌∙◌}
use Rattle.messages.specs.declared.framework.Framework.{Framework}
use Rattle.master_state.specs.Frameworks.{revived}
use Rattle.master_state.proofs.Placed.{changes_there, changes_nowhere}
use Rattle.master_state.proofs.registry.edit.revive_in.Goals as goal

pub returns-in-Some : goal.returns-in-Some
returns-in-Some c =
    let fs = c.args.frameworks.now.items in
    let at = sym (rw c.deref.ensures.value at c.place_with.ensures) ∙ c.in-Some.is in
    ap (λ (f : Framework). set fs c.in-Some.place f) c.revive_one.ensures ∙ changes_there revived c.args.id fs c.in-Some.place c.index_mut.result.now c.requires at c.index_mut.ensures.value

pub returns-in_default : goal.returns-in_default
returns-in_default c = sym (changes_nowhere revived c.args.id c.args.frameworks.now.items (sym (rw c.deref.ensures.value at c.place_with.ensures) ∙ c.in_default.is))
