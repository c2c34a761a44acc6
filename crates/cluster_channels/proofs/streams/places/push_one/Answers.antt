use Rattle.std.proofs.Common.{[], ◌∷◌, set, ap, sym, ◌∙◌, rules}
use Rattle.cluster_channels.specs.Streams.{KeptStream, receiving}
use Rattle.cluster_channels.proofs.Standing.{stands_at, changes_there, changes_nowhere}
use Rattle.cluster_channels.proofs.Receiving.{receives_elsewhere, receives_one}
use Rattle.cluster_channels.proofs.streams.places.push_one.Goals as goal

pub returns-in_default-clause-ok : goal.returns-in_default-clause-ok
returns-in_default-clause-ok c =
    sym (changes_nowhere c.args.event.now.stream (receiving (c.args.event.now ∷ [])) (receives_elsewhere c.args.event.now) c.args.streams.now.items (sym (rw c.deref.ensures.value at c.place_of.ensures) ∙ c.in_default.is))

pub returns-clause-ok : goal.returns-clause-ok
returns-clause-ok c =
    let e = c.args.event.now in
    let xs = c.args.streams.now.items in
    let s : KeptStream = c.index_mut.result.now in
    let at = sym (rw c.deref.ensures.value at c.place_of.ensures) ∙ c.in-Some.is in
    let there = stands_at e.stream xs c.in-Some.place s at c.index_mut.ensures.value in
    let received = receives_one e s there.passes in
    ap (λ (t : KeptStream). set xs c.in-Some.place t) (search rules) ∙ changes_there e.stream (receiving (e ∷ [])) (receives_elsewhere e) xs c.in-Some.place s c.requires at c.index_mut.ensures.value
