use Rattle.std.proofs.Common.{ap, ◌∙◌}
use Rattle.offer_tables.specs.Books as books
use Rattle.offer_tables.specs.declared.fault.BookFault.TheVariants.{Unknown, NoRoom, Twice}
use Rattle.master_agents.specs.Joined.{Fit, joined}
use Rattle.master_agents.specs.Taking.{booked_on}
use Rattle.master_agents.proofs.Due.{booked_due, booked_fit, booked_is, booked_lifts, not_refused, ok_lifts, refusal_lifts, settled}
use Rattle.master_agents.proofs.sides.Sides.book_on.Goals.{in-Ok, in-Err-OutOfMemory}
use Rattle.master_agents.proofs.sides.Sides.book_on.Goals as goal

pub unreachable-requires : goal.unreachable-requires
unreachable-requires c =
    let due = booked_lifts c.args.name.now c.args.task c.self.inside.roster c.self.inside.book c.self.invariant ∙ ap (booked_on c.args.name.now c.args.task) c.self.view_is in
    not_refused Unknown (booked_on c.args.name.now c.args.task c.args.self.now) _ (booked_due c.args.name.now c.args.task c.args.self.now c.requires.new c.requires.room)
    (refusal_lifts c.self.inside.roster (books.booked c.args.name.now c.args.task c.self.inside.book) (booked_on c.args.name.now c.args.task c.args.self.now) due Unknown (rw c.in-Err-Unknown.field-0-is at c.in-Err-Unknown.ensures.refused)) (λ e. cc)

pub unreachable-requires-in-Err-NoRoom : goal.unreachable-requires-in-Err-NoRoom
unreachable-requires-in-Err-NoRoom c =
    let due = booked_lifts c.args.name.now c.args.task c.self.inside.roster c.self.inside.book c.self.invariant ∙ ap (booked_on c.args.name.now c.args.task) c.self.view_is in
    not_refused NoRoom (booked_on c.args.name.now c.args.task c.args.self.now) _ (booked_due c.args.name.now c.args.task c.args.self.now c.requires.new c.requires.room)
    (refusal_lifts c.self.inside.roster (books.booked c.args.name.now c.args.task c.self.inside.book) (booked_on c.args.name.now c.args.task c.args.self.now) due NoRoom (rw c.in-Err-NoRoom.field-0-is at c.in-Err-NoRoom.ensures.refused)) (λ e. cc)

pub unreachable-requires-in-Err-Twice : goal.unreachable-requires-in-Err-Twice
unreachable-requires-in-Err-Twice c =
    let due = booked_lifts c.args.name.now c.args.task c.self.inside.roster c.self.inside.book c.self.invariant ∙ ap (booked_on c.args.name.now c.args.task) c.self.view_is in
    not_refused Twice (booked_on c.args.name.now c.args.task c.args.self.now) _ (booked_due c.args.name.now c.args.task c.args.self.now c.requires.new c.requires.room)
    (refusal_lifts c.self.inside.roster (books.booked c.args.name.now c.args.task c.self.inside.book) (booked_on c.args.name.now c.args.task c.args.self.now) due Twice (rw c.in-Err-Twice.field-0-is at c.in-Err-Twice.ensures.refused)) (λ e. cc)

pub invariant_of-self : goal.invariant_of-self
invariant_of-self c =
    settled (Fit c.self.inside.roster) c.book.result (books.booked c.args.name.now c.args.task c.self.inside.book) c.self.inside.book c.book.new.self
    (booked_fit c.args.name.now c.args.task c.self.inside.roster c.self.inside.book c.book.new.self c.self.invariant) c.self.invariant c.book.ensures.ok c.book.ensures.err

pub returns-clause-booked : goal.returns-clause-booked
returns-clause-booked c = elim c.match-book.branch [
  | in-Ok w ↦ rw w.result-is (booked_is c.args.name.now c.args.task c.args.self.now (joined c.self.inside.roster c.book.new.self)
      (ok_lifts c.self.inside.roster (books.booked c.args.name.now c.args.task c.self.inside.book) c.book.new.self (booked_on c.args.name.now c.args.task c.args.self.now)
      (booked_lifts c.args.name.now c.args.task c.self.inside.roster c.self.inside.book c.self.invariant ∙ ap (booked_on c.args.name.now c.args.task) c.self.view_is) w.in-Ok.ensures.ok))
  | in-Err-OutOfMemory w ↦ rw w.result-is tt
]
