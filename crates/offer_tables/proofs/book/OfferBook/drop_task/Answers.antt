use Rattle.offer_tables.proofs.Ridding.{task_dropped}
use Rattle.offer_tables.proofs.book.OfferBook.drop_task.Goals as goal

pub returns : goal.returns
returns c = task_dropped c.args.key c.args.self.now c.forget-forgotten.new.self c.forget-forgotten.result c.forget-forgotten.ensures.ok c.forget-forgotten.ensures.refused c.forget-forgotten.ensures.err
