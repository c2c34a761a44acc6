use Rattle.std.proofs.Common.{refl, ap, ◌∙◌, sym, ◌≡◌, true, false, []}
use Rattle.cluster_model.specs.Sides.{lost}
use Rattle.offer_tables.specs.Accounts as accounts
use Rattle.master_agents.specs.Joined as joins
use Rattle.roster.specs.Places.{at_place, value_at}
use Rattle.master_agents.proofs.Joining.{joined_same, joined_when, fit_book, fit_roster}
use Rattle.master_agents.proofs.Changing.{lost_joins, lost_keeps, lost_stays, reopened_keeps}
use Rattle.master_agents.proofs.sides.Sides.lose.Goals as goal

pub invariant_of-self : goal.invariant_of-self
invariant_of-self c =
    let book : c.empty_at.new.book ≡ joins.at_place c.args.place (accounts.reopened [] []) c.self.inside.book = c.empty_at.ensures in
    rw (c.close_session.ensures, book)
    (fit_roster c.args.place lost lost_keeps c.self.inside.roster (joins.at_place c.args.place (accounts.reopened [] []) c.self.inside.book) (fit_book c.args.place (accounts.reopened [] []) (reopened_keeps [] []) (λ a h. refl) c.self.inside.roster c.self.inside.book c.self.invariant))

pub returns-then-is_open_in : goal.returns-then-is_open_in
returns-then-is_open_in c =
    let book : c.empty_at.new.book ≡ joins.at_place c.args.place (accounts.reopened [] []) c.self.inside.book = c.empty_at.ensures in
    rw (c.close_session.ensures, book)
    (joined_when c.args.place lost lost (accounts.reopened [] []) (λ s. s.is_open) false true lost_joins c.self.inside.roster c.self.inside.book c.self.invariant.one (sym (c.is_open_in.ensures ∙ ap (value_at c.args.place (λ s. s.is_open) false) c.entries.ensures) ∙ c.if-is_open_in.true) ∙ ap (at_place c.args.place lost) c.self.view_is)

pub returns-else-is_open_in : goal.returns-else-is_open_in
returns-else-is_open_in c =
    sym c.self.view_is
    ∙ joined_same c.args.place lost (λ s. s.is_open) false false lost_stays c.self.inside.roster c.self.inside.book c.self.invariant.one (sym (c.is_open_in.ensures ∙ ap (value_at c.args.place (λ s. s.is_open) false) c.entries.ensures) ∙ c.if-is_open_in.false)
    ∙ ap (at_place c.args.place lost) c.self.view_is
