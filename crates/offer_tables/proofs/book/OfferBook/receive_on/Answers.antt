use Rattle.std.proofs.Common.{Ok, sym, ap, ◌∙◌}
use Rattle.offer_tables.specs.Accounts.{receiving}
use Rattle.offer_tables.proofs.Whereabouts.{changed_is}
use Rattle.offer_tables.proofs.book.OfferBook.receive_on.Goals as goal

pub returns-clause-ok : goal.returns-clause-ok
returns-clause-ok c =
    let u = c.args.update.now in
    changed_is c.args.name.now (receiving u.key u.k u.state u.ended) c.args.self.now c.in-Some.place c.in-Some.ensures ∙ ap (λ x. Ok x) (sym c.receive_at.ensures)
