use Rattle.cluster_model.specs.Steps.{history}
use Rattle.cluster_laws.specs.declared.item.Item.TheVariants as items
use Rattle.cluster_laws.proofs.InOrder.{all_in_order}
use Rattle.cluster_laws.proofs.Histories.{history_once}
use Rattle.cluster_laws.proofs.Named.{history_named}
use Rattle.cluster_laws.proofs.Posts.{post_for}
use Rattle.cluster_laws.proofs.laws.mails_to_agents_come_in_order.Goals as goal

pub returns : goal.returns
returns c setup records steps sent n to good stand e =
    let s = (history setup records steps).state in
    let p = post_for s.world.channels s.posts sent stand n (items.ToAgent to) e in
    all_in_order s.world.run.next_key s.world.channels (history_once setup records steps good) (history_named setup records steps) (c.mails_meet_their_premises.ensures setup records steps good) p.0 to p.2
