use Rattle.std.proofs.Common.{sym, ap, subst, ◌∙◌, arith}
use Rattle.cluster_model.specs.Sides.{Side}
use Rattle.offer_tables.specs.Accounts.{reopened}
use Rattle.offer_tables.specs.Books.{reopened_on}
use Rattle.offer_tables.specs.Reports.{AreBookableOn}
use Rattle.master_agents.proofs.Placing.{past}
use Rattle.master_agents.proofs.Reporting.{got_at, partly_alike, partly_fit, reopened_fit, reopened_is, some_is}
use Rattle.master_agents.proofs.placed.reopen_at.Goals as goal

pub returns-then-place-entries-clause-ok : goal.returns-then-place-entries-clause-ok
returns-then-place-entries-clause-ok c = past (reopened c.args.tasks c.args.total) c.args.entries.now c.args.book.now c.requires.fit.one c.args.place (omega (arith, c.if-place-entries.true))

pub reopen-requires : goal.reopen-requires
reopen-requires c =
    let s = c.index-entries-place.result in
    subst (λ n. AreBookableOn n c.args.tasks c.args.total c.args.book.now) (sym c.name.ensures)
    (some_is (λ (t : Side). AreBookableOn t.name c.args.tasks c.args.total c.args.book.now) s (got_at c.args.entries.now c.args.place s (omega (arith, c.if-place-entries.false)) c.index-entries-place.is) c.requires.bookable)

pub returns-in-Ok-clause-ok : goal.returns-in-Ok-clause-ok
returns-in-Ok-clause-ok c =
    let s = c.index-entries-place.result in
    reopened_is c.args.tasks c.args.total c.args.entries.now c.args.book.now c.reopen.new.self c.requires.fit c.args.place s (omega (arith, c.if-place-entries.false)) c.index-entries-place.is
    (ap (λ n. reopened_on n c.args.tasks c.args.total c.args.book.now) (sym c.name.ensures) ∙ c.in-Ok.ensures.ok)

pub returns-in-Ok-clause-fit : goal.returns-in-Ok-clause-fit
returns-in-Ok-clause-fit c =
    let s = c.index-entries-place.result in
    reopened_fit c.args.tasks c.args.total c.args.entries.now c.args.book.now c.reopen.new.self c.requires.fit c.args.place
    (reopened_is c.args.tasks c.args.total c.args.entries.now c.args.book.now c.reopen.new.self c.requires.fit c.args.place s (omega (arith, c.if-place-entries.false)) c.index-entries-place.is
    (ap (λ n. reopened_on n c.args.tasks c.args.total c.args.book.now) (sym c.name.ensures) ∙ c.in-Ok.ensures.ok))

pub returns-in-Err-clause-fit : goal.returns-in-Err-clause-fit
returns-in-Err-clause-fit c =
    let s = c.index-entries-place.result in
    partly_fit c.args.tasks c.args.total c.args.entries.now c.args.book.now c.reopen.new.self c.requires.fit c.args.place s (omega (arith, c.if-place-entries.false)) c.index-entries-place.is
    (partly_alike c.args.tasks c.args.total c.args.book.now c.reopen.new.self c.name.result.now s.name c.name.ensures c.in-Err.ensures.err)
