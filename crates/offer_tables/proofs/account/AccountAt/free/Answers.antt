use Rattle.std.proofs.Common.{◌≡◌, IfOk, ap, subst}
use Rattle.quantity.specs.Rows.{rest_of}
use Rattle.offer_book.specs.Lists.{list_at}
use Rattle.offer_tables.specs.Accounts.{free, taken_by}
use Rattle.offer_tables.proofs.account.AccountAt.free.Goals as goal

pub returns : goal.returns
returns c =
    let a = c.self.inside in
    let taken = taken_by (list_at a.place a.offers.now) (list_at a.place a.tasks.now) in
    let is : rest_of a.row.now.total taken ≡ free c.args.self.now = ap free c.self.view_is in
    subst (λ z. IfOk c.to_resources.result (λ rest. rest ≡ z)) is (c.to_resources.ensures taken c.self.invariant.free)
