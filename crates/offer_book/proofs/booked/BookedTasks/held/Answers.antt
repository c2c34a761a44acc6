use Rattle.std.proofs.Common.{sym, subst, ap, ◌∙◌}
use Rattle.std.specs.Option.{option_copied}
use Rattle.offer_book.specs.Held.{IsHeld, first_of}
use Rattle.offer_book.proofs.Choosing.{held_is}
use Rattle.offer_book.proofs.booked.BookedTasks.held.Goals as goal

pub returns-clause-held : goal.returns-clause-held
returns-clause-held c =
    let l = c.self.inside.tasks in
    subst (λ m. IsHeld c.args.framework c.args.name.now m (option_copied c.first_of.result)) c.self.view_is
    (subst (IsHeld c.args.framework c.args.name.now l) (sym (c.first_of.ensures ∙ ap (first_of l) c.keys_of.ensures))
    (held_is l c.self.inside.names c.args.framework c.args.name.now c.self.invariant))
