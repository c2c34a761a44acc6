use Rattle.cluster_model.specs.Steps.{history}
use Rattle.cluster_laws.specs.declared.item.Item.TheVariants as items
use Rattle.cluster_laws.proofs.InOrder.{fits_sides}
use Rattle.cluster_laws.proofs.Limits.{fits_record, history_roomy}
use Rattle.cluster_laws.proofs.Posts.{post_for}
use Rattle.cluster_laws.proofs.Rising.{history_rises}
use Rattle.cluster_laws.proofs.laws.mails_of_agents_fit.Goals as goal

pub returns-clause-number : goal.returns-clause-number
returns-clause-number c setup records steps sent n to recorded stand e =
    let s = (history setup records steps).state in
    let p = post_for s.world.channels s.posts sent stand n (items.ToMaster to) e in
    fits_record s.world.channels (history_roomy setup records steps recorded) p.0 to p.2

pub returns-clause-fits : goal.returns-clause-fits
returns-clause-fits c setup records steps sent n to good recorded stand e =
    let s = (history setup records steps).state in
    let p = post_for s.world.channels s.posts sent stand n (items.ToMaster to) e in
    fits_sides s.world.run s.world.channels (c.mails_meet_their_premises.ensures setup records steps good) (history_rises setup records steps recorded) p.0 to p.2
