use Rattle.std.proofs.Common.{◌∙◌, sym}
use Rattle.cluster_channels.proofs.Receiving.{unreceived, unreceived_nowhere, set_ids}
use Rattle.cluster_channels.proofs.streams.places.drop_one.Goals as goal

pub returns-in-Some-clause-before : goal.returns-in-Some-clause-before
returns-in-Some-clause-before c = λ before was.
    let at = sym (rw c.deref.ensures.value at c.place_of.ensures) ∙ c.in-Some.is in
    unreceived c.args.event.now before c.args.streams.now.items c.in-Some.place c.index_mut.result.now c.drop_last.new.self was c.requires at c.index_mut.ensures.value c.drop_last.ensures

pub returns-in-Some-clause-ids : goal.returns-in-Some-clause-ids
returns-in-Some-clause-ids c = set_ids c.args.streams.now.items c.in-Some.place c.index_mut.result.now c.drop_last.new.self c.index_mut.ensures.value

pub returns-in_default-clause-before : goal.returns-in_default-clause-before
returns-in_default-clause-before c = λ before was. unreceived_nowhere c.args.event.now before c.args.streams.now.items was (sym (rw c.deref.ensures.value at c.place_of.ensures) ∙ c.in_default.is)
