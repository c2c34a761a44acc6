use Rattle.offer_book.proofs.Indexing.{forgotten_more}
use Rattle.offer_book.proofs.booked.forget_names.Goals as goal

pub loop-key-preserved : goal.loop-key-preserved
loop-key-preserved c =
    forgotten_more c.loop-key.names c.forget_name.new.names c.args.tasks.now c.args.keys.now c.loop-key.key-index c.key-item.result c.loop-key-test.true c.key-item.is
    c.loop-key.invariant c.forget_name.ensures
