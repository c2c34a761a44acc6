use Rattle.std.proofs.Common.{Ok, sym, ap, ◌∙◌}
use Rattle.offer_tables.specs.Accounts.{without_named}
use Rattle.offer_tables.proofs.Whereabouts.{changed_is}
use Rattle.offer_tables.proofs.book.OfferBook.withdraw_used.Goals as goal

pub returns-clause-ok : goal.returns-clause-ok
returns-clause-ok c =
    changed_is c.args.name.now (without_named c.args.framework c.args.ids.now) c.args.self.now c.in-Some.place c.in-Some.ensures ∙ ap (λ x. Ok x) (sym c.withdraw_named_at.ensures)
