use Rattle.std.proofs.Common.{◌≡◌, ◌∙◌, [], ◌∷◌, List, map, ap, sym, rules}
use Rattle.cluster_channels.specs.Streams.{KeptStream, receiving}
use Rattle.cluster_channels.proofs.Receiving.{receives_nothing, ids_received, received_one_more}
use Rattle.cluster_channels.proofs.streams.places.push_some.Goals as goal

pub loop-i-init : goal.loop-i-init
loop-i-init c = sym (receives_nothing c.args.streams.now.items)

pub push_one-requires : goal.push_one-requires
push_one-requires c = ids_received _ c.args.streams.now.items c.loop-i.streams.items c.loop-i.invariant c.requires

pub loop-i-preserved : goal.loop-i-preserved
loop-i-preserved c =
    let e = c.index-events-i.result in
    let pushed : c.push_one.new.streams.items ≡ map (receiving (e ∷ [])) c.loop-i.streams.items = search rules in
    pushed ∙ (ap (λ (ss : List KeptStream). map (receiving (e ∷ [])) ss) c.loop-i.invariant ∙ received_one_more c.args.events.now c.loop-i.i e c.args.streams.now.items c.loop-i-test.true c.index-events-i.is)
