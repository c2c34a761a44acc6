use Rattle.std.proofs.Common.{◌∙◌, sym, subst, rules}
use Rattle.cluster_laws.specs.Runs.{AreRising}
use Rattle.cluster_channels.proofs.Receiving.{receives_none_left, received_but_last}
use Rattle.cluster_channels.proofs.streams.places.drop_all.Goals as goal

pub loop-k-preserved : goal.loop-k-preserved
loop-k-preserved c =
    let es = c.args.events.now in
    let k = c.loop-k.k in
    let e = c.index-events-count.result in (
      subst AreRising (sym c.drop_one.ensures.ids) c.loop-k.invariant.0,
      λ before was. c.drop_one.ensures.before _ (c.loop-k.invariant.1 before was ∙ received_but_last es k e before c.loop-k-test.true (c.index-events-count.is ∙ search rules)),
    )

pub returns : goal.returns
returns c = λ before was. c.loop-k.invariant.1 before was ∙ receives_none_left c.args.events.now c.loop-k.k before c.loop-k-test.false
