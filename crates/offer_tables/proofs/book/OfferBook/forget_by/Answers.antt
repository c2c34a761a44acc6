use Rattle.std.proofs.Common.{Ok, sym, ap, ◌∙◌}
use Rattle.offer_tables.specs.Accounts.{after_commands}
use Rattle.offer_tables.proofs.Whereabouts.{changed_is}
use Rattle.offer_tables.proofs.book.OfferBook.forget_by.Goals as goal

pub returns-clause-ok : goal.returns-clause-ok
returns-clause-ok c =
    changed_is c.args.name.now (after_commands c.args.commands.now) c.args.self.now c.in-Some.place c.in-Some.ensures ∙ ap (λ x. Ok x) (sym c.forget_by_at.ensures)
