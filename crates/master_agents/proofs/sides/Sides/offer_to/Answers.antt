use Rattle.std.proofs.Common.{ap, ◌∙◌}
use Rattle.offer_tables.specs.Books as books
use Rattle.offer_tables.specs.declared.fault.BookFault.TheVariants.{Unknown, NoRoom, Twice}
use Rattle.master_agents.specs.Joined.{Fit, joined}
use Rattle.master_agents.specs.Taking.{offered_to}
use Rattle.master_agents.proofs.Due.{not_refused, offered_due, offered_fit, offered_is, offered_lifts, ok_lifts, refusal_lifts, settled}
use Rattle.master_agents.proofs.sides.Sides.offer_to.Goals.{in-Ok, in-Err-OutOfMemory}
use Rattle.master_agents.proofs.sides.Sides.offer_to.Goals as goal

pub unreachable-requires : goal.unreachable-requires
unreachable-requires c =
    let due = offered_lifts c.args.name.now c.args.offer c.self.inside.roster c.self.inside.book c.self.invariant ∙ ap (offered_to c.args.name.now c.args.offer) c.self.view_is in
    not_refused Unknown (offered_to c.args.name.now c.args.offer c.args.self.now) _ (offered_due c.args.name.now c.args.offer c.args.self.now c.requires.fresh c.requires.room)
    (refusal_lifts c.self.inside.roster (books.offered c.args.name.now c.args.offer c.self.inside.book) (offered_to c.args.name.now c.args.offer c.args.self.now) due Unknown (rw c.in-Err-Unknown.field-0-is at c.in-Err-Unknown.ensures.refused)) (λ e. cc)

pub unreachable-requires-in-Err-NoRoom : goal.unreachable-requires-in-Err-NoRoom
unreachable-requires-in-Err-NoRoom c =
    let due = offered_lifts c.args.name.now c.args.offer c.self.inside.roster c.self.inside.book c.self.invariant ∙ ap (offered_to c.args.name.now c.args.offer) c.self.view_is in
    not_refused NoRoom (offered_to c.args.name.now c.args.offer c.args.self.now) _ (offered_due c.args.name.now c.args.offer c.args.self.now c.requires.fresh c.requires.room)
    (refusal_lifts c.self.inside.roster (books.offered c.args.name.now c.args.offer c.self.inside.book) (offered_to c.args.name.now c.args.offer c.args.self.now) due NoRoom (rw c.in-Err-NoRoom.field-0-is at c.in-Err-NoRoom.ensures.refused)) (λ e. cc)

pub unreachable-requires-in-Err-Twice : goal.unreachable-requires-in-Err-Twice
unreachable-requires-in-Err-Twice c =
    let due = offered_lifts c.args.name.now c.args.offer c.self.inside.roster c.self.inside.book c.self.invariant ∙ ap (offered_to c.args.name.now c.args.offer) c.self.view_is in
    not_refused Twice (offered_to c.args.name.now c.args.offer c.args.self.now) _ (offered_due c.args.name.now c.args.offer c.args.self.now c.requires.fresh c.requires.room)
    (refusal_lifts c.self.inside.roster (books.offered c.args.name.now c.args.offer c.self.inside.book) (offered_to c.args.name.now c.args.offer c.args.self.now) due Twice (rw c.in-Err-Twice.field-0-is at c.in-Err-Twice.ensures.refused)) (λ e. cc)

pub invariant_of-self : goal.invariant_of-self
invariant_of-self c =
    settled (Fit c.self.inside.roster) c.offer.result (books.offered c.args.name.now c.args.offer c.self.inside.book) c.self.inside.book c.offer.new.self
    (offered_fit c.args.name.now c.args.offer c.self.inside.roster c.self.inside.book c.offer.new.self c.self.invariant) c.self.invariant c.offer.ensures.ok c.offer.ensures.err

pub returns-clause-ok : goal.returns-clause-ok
returns-clause-ok c = elim c.match-offer.branch [
  | in-Ok w ↦ rw w.result-is (ok_lifts c.self.inside.roster (books.offered c.args.name.now c.args.offer c.self.inside.book) c.offer.new.self (offered_to c.args.name.now c.args.offer c.args.self.now)
      (offered_lifts c.args.name.now c.args.offer c.self.inside.roster c.self.inside.book c.self.invariant ∙ ap (offered_to c.args.name.now c.args.offer) c.self.view_is) w.in-Ok.ensures.ok)
  | in-Err-OutOfMemory w ↦ rw w.result-is tt
]

pub returns-clause-offering : goal.returns-clause-offering
returns-clause-offering c = elim c.match-offer.branch [
  | in-Ok w ↦ rw w.result-is (offered_is c.args.name.now c.args.offer c.args.self.now (joined c.self.inside.roster c.offer.new.self)
      (ok_lifts c.self.inside.roster (books.offered c.args.name.now c.args.offer c.self.inside.book) c.offer.new.self (offered_to c.args.name.now c.args.offer c.args.self.now)
      (offered_lifts c.args.name.now c.args.offer c.self.inside.roster c.self.inside.book c.self.invariant ∙ ap (offered_to c.args.name.now c.args.offer) c.self.view_is) w.in-Ok.ensures.ok))
  | in-Err-OutOfMemory w ↦ rw w.result-is tt
]
