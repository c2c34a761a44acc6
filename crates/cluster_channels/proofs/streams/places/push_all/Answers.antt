use Rattle.cluster_channels.proofs.Receiving.{ids_received}
use Rattle.cluster_channels.proofs.streams.places.push_all.Goals as goal

pub drop_all-requires : goal.drop_all-requires
drop_all-requires c = ids_received _ c.args.streams.now.items c.push_some-count.new.streams.items c.push_some-count.ensures.streams c.requires
