use Rattle.std.proofs.Common.{◌≡◌, zero, None, map, refl, sym, ap, ◌∙◌}
use Rattle.cluster_model.specs.Sides.{received_update}
use Rattle.offer_book.specs.Lists.{find_from}
use Rattle.offer_book.proofs.Changing.{received_stays}
use Rattle.offer_book.proofs.Taking.{here_is, map_nowhere}
use Rattle.offer_tables.specs.Accounts.{receiving}
use Rattle.offer_tables.specs.Books.{received}
use Rattle.offer_tables.specs.Rows.{accounts}
use Rattle.offer_tables.proofs.Books.{map-same, task_within, view_all, view_mapped}
use Rattle.offer_tables.proofs.Receiving.{book_received}
use Rattle.offer_tables.proofs.book.OfferBook.receive.Goals as goal

pub returns-in_default : goal.returns-in_default
returns-in_default c =
    let u = c.args.update.now in
    let rs = c.self.inside.agents.items in
    let os = c.self.inside.offers in
    let bs = c.self.inside.tasks in
    let none : find_from (λ x. x.job.key) zero u.key bs ≡ None = sym c.in_default.ensures.found in
    sym (ap (received u) (sym c.self.view_is)
    ∙ sym (view_all (λ l. l) (map (received_update u.key u.k u.state u.ended)) (receiving u.key u.k u.state u.ended) rs os bs c.self.invariant.each (λ r ps cs. refl))
    ∙ (λ i. accounts rs (map-same os i) (map_nowhere (λ x. x.job.key) (received_update u.key u.k u.state u.ended) u.key (received_stays u.key u.k u.state u.ended) bs zero none i))
    ∙ c.self.view_is)

pub settle-requires : goal.settle-requires
settle-requires c =
    let e = c.in-Some.located.now in
    task_within c.self.inside.agents.items c.self.inside.offers c.self.inside.tasks e.place c.args.update.now.key e.item c.self.invariant.each
    (here_is (λ x. x.job.key) c.self.inside.tasks c.args.update.now.key e c.find.ensures.once (sym c.in-Some.ensures.found)).first_there

pub invariant_of-self : goal.invariant_of-self
invariant_of-self c =
    let u = c.args.update.now in
    let e = c.in-Some.located.now in
    book_received u.key u.k u.state u.ended c.self.inside.names.keys c.self.inside.agents.items c.settle.new.agents.items c.self.inside.offers c.self.inside.tasks c.receive.new.self e
    c.self.invariant c.find.ensures.once (sym c.in-Some.ensures.found) c.receive.ensures c.settle.ensures

pub returns : goal.returns
returns c =
    let u = c.args.update.now in
    let e = c.in-Some.located.now in
    let rs = c.self.inside.agents.items in
    let os = c.self.inside.offers in
    let bs = c.self.inside.tasks in
    sym (ap (received u) (sym c.self.view_is)
    ∙ sym (view_mapped _ (λ l. l) (map (received_update u.key u.k u.state u.ended)) (receiving u.key u.k u.state u.ended) rs c.settle.new.agents.items os bs e.place c.settle.ensures c.self.invariant.each (λ r ps cs. refl))
    ∙ (λ i. accounts c.settle.new.agents.items (map-same os i) (sym c.receive.ensures i)))
