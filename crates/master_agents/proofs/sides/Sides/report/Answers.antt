use Rattle.std.proofs.Common.{true, false, ap, ◌∙◌, sym, Ok, Err}
use Rattle.roster.specs.Places.{at_place}
use Rattle.roster.specs.Sessions.{after_report, reported}
use Rattle.offer_tables.specs.Accounts as accounts
use Rattle.master_agents.specs.Joined as joins
use Rattle.master_agents.specs.Changes.{reporting}
use Rattle.master_agents.proofs.Joining.{fit_roster, joined_if, joined_when, on_ok}
use Rattle.master_agents.proofs.Changing.{report_again_joins, report_keeps, report_opens_joins, report_refused_joins}
use Rattle.master_agents.proofs.Reporting.{bookable_after}
use Rattle.master_agents.proofs.sides.Sides.report.Goals as goal

pub invariant_of-self : goal.invariant_of-self
invariant_of-self c = rw c.report.ensures.sides (fit_roster c.args.place (after_report c.args.run c.args.session c.args.number) (report_keeps c.args.run c.args.session c.args.number) c.self.inside.roster c.self.inside.book c.self.invariant)

pub returns-in-Err : goal.returns-in-Err
returns-in-Err c =
    rw c.report.ensures.sides
    (joined_if c.args.place (after_report c.args.run c.args.session c.args.number) (reporting c.args.run c.args.session c.args.number c.args.tasks c.args.total) (λ s. reported c.args.run s c.args.session c.args.number) (Ok false) (Err c.in-Err._refusal) (report_refused_joins c.args.run c.args.session c.args.number c.args.tasks c.args.total c.in-Err._refusal) c.self.inside.roster c.self.inside.book c.self.invariant.one (sym c.report.ensures.answer ∙ c.in-Err.is)
    ∙ ap (at_place c.args.place (reporting c.args.run c.args.session c.args.number c.args.tasks c.args.total)) c.self.view_is)

pub invariant_of-self-then-not-opens : goal.invariant_of-self-then-not-opens
invariant_of-self-then-not-opens c = rw c.report.ensures.sides (fit_roster c.args.place (after_report c.args.run c.args.session c.args.number) (report_keeps c.args.run c.args.session c.args.number) c.self.inside.roster c.self.inside.book c.self.invariant)

pub returns-then-not-opens : goal.returns-then-not-opens
returns-then-not-opens c =
    rw c.report.ensures.sides
    (joined_if c.args.place (after_report c.args.run c.args.session c.args.number) (reporting c.args.run c.args.session c.args.number c.args.tasks c.args.total) (λ s. reported c.args.run s c.args.session c.args.number) (Ok false) (Ok false) (report_again_joins c.args.run c.args.session c.args.number c.args.tasks c.args.total) c.self.inside.roster c.self.inside.book c.self.invariant.one (sym c.report.ensures.answer ∙ c.in-Ok.is ∙ ap (λ b. Ok b) c.if-not-opens.true)
    ∙ ap (at_place c.args.place (reporting c.args.run c.args.session c.args.number c.args.tasks c.args.total)) c.self.view_is)

pub reopen_at-requires-clause-fit : goal.reopen_at-requires-clause-fit
reopen_at-requires-clause-fit c =
    rw (c.entries-entries.ensures, c.report.ensures.sides)
    (fit_roster c.args.place (after_report c.args.run c.args.session c.args.number) (report_keeps c.args.run c.args.session c.args.number) c.self.inside.roster c.self.inside.book c.self.invariant)

pub reopen_at-requires-clause-bookable : goal.reopen_at-requires-clause-bookable
reopen_at-requires-clause-bookable c =
    rw (c.entries-entries.ensures, c.report.ensures.sides)
    (bookable_after c.args.run c.args.session c.args.number c.args.tasks c.args.total c.self.inside.roster c.self.inside.book c.self.invariant c.args.place c.args.self.now c.self.view_is
    (sym c.report.ensures.answer ∙ c.in-Ok.is ∙ ap (λ b. Ok b) c.if-not-opens.false) c.requires)

pub returns : goal.returns
returns c =
    on_ok c.reopen_at.result
    (λ e. rw c.report.ensures.sides
    (ap (joins.joined (at_place c.args.place (after_report c.args.run c.args.session c.args.number) c.self.inside.roster)) e
    ∙ joined_when c.args.place (after_report c.args.run c.args.session c.args.number) (reporting c.args.run c.args.session c.args.number c.args.tasks c.args.total) (accounts.reopened c.args.tasks c.args.total) (λ s. reported c.args.run s c.args.session c.args.number) (Ok false) (Ok true) (report_opens_joins c.args.run c.args.session c.args.number c.args.tasks c.args.total) c.self.inside.roster c.self.inside.book c.self.invariant.one (sym c.report.ensures.answer ∙ c.in-Ok.is ∙ ap (λ b. Ok b) c.if-not-opens.false)
    ∙ ap (at_place c.args.place (reporting c.args.run c.args.session c.args.number c.args.tasks c.args.total)) c.self.view_is))
    c.reopen_at.ensures.ok
