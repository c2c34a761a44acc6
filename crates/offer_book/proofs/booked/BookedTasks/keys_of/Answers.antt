use Rattle.std.proofs.Common.{◌≡◌, IfOk, subst}
use Rattle.names_core.specs.Ids.{Numbered}
use Rattle.offer_book.specs.Lists.{find}
use Rattle.offer_book.specs.Names.{is_among, is_framework_of}
use Rattle.offer_book.proofs.Gathering.{if_ok_map, keys_are}
use Rattle.offer_book.proofs.booked.BookedTasks.keys_of.Goals as goal

pub returns-clause-keys : goal.returns-clause-keys
returns-clause-keys c =
    subst (λ l. IfOk c.all_keys_of.result (λ ks. (key : Numbered) → is_among key ks.items ≡ is_framework_of c.args.framework (find (λ x. x.job.key) key l))) c.self.view_is
    (if_ok_map c.all_keys_of.result c.all_keys_of.ensures (λ ks a. keys_are c.self.inside.names c.self.inside.tasks c.args.framework ks.items c.self.invariant a))
