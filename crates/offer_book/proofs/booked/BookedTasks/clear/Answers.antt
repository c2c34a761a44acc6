use Rattle.std.proofs.Common.{◌≡◌, ℕ, List, false, cond, sym, subst}
use Rattle.names_core.specs.Ids.{Numbered}
use Rattle.offer_book.specs.Lists.{find}
use Rattle.offer_book.specs.Names.{IsIndex, is_among, is_named, keys_named}
use Rattle.offer_book.proofs.Indexing.{index_clear}
use Rattle.offer_book.proofs.booked.BookedTasks.clear.Goals as goal

pub invariant_of-self : goal.invariant_of-self
invariant_of-self c =
    subst (IsIndex c.forget_names.new.names) (sym c.clear.ensures)
    (index_clear c.forget_names.new.names c.self.inside.tasks c.args.place c.keys_at.ensures.once
    (subst (λ ks. (f : Numbered) (text : List ℕ) (k : Numbered) → is_among k (keys_named f text c.forget_names.new.names)
    ≡ cond (is_among k ks) false (is_named f text (find (λ x. x.job.key) k c.self.inside.tasks))) c.keys_at.ensures.keys c.forget_names.ensures))
