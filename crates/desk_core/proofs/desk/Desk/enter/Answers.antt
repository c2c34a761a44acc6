use Rattle.std.proofs.Common.{◌∷◌, [], ap, arith, length, length-append, subst}
use Rattle.desk_core.specs.Receipts.{Enters}
use Rattle.desk_core.specs.declared.fault.OfficeFault.TheVariants.{ForeignPass}
use Rattle.desk_core.proofs.Answering.{foreign_refused, not_foreign, step_refused}
use Rattle.desk_core.proofs.Keeps.{entered_own}
use Rattle.desk_core.proofs.desk.Desk.enter.Goals as goal

pub returns-in-Ok-clause-entered : goal.returns-in-Ok-clause-entered
returns-in-Ok-clause-entered g c =
    let history = g.C.Recorded.history in
    let old = c.args.self.now in
    let e = c.in-Ok.ensures.entered in
    let a = c.in-Ok.answered in
    let within = not_foreign c.is_foreign_seat.result _ old.opened c.args.seat c.args.seen c.if-is_foreign_seat.false c.is_foreign_seat.ensures.1 in
    let grown = ap length e.entry in
    let one = length-append (history old.recorded) (a.receipt.entry ∷ []) in
    let number = e.number in
    let total = c.apply.ensures.kept.1 in
    let counted = c.entries-entries.ensures.counted in
    let seen = within.0 in
    record {
      enters = subst (λ seat. Enters history old seat a.receipt c.apply.new.self) (entered_own old.opened c.args.seat within.1) e;
      of_step = c.in-Ok.ensures.step;
      taken = c.in-Ok.ensures.taken;
      later = omega arith;
      level = c.entries-entries.ensures.seated;
      spare = omega arith;
    }

pub returns-in-Err-clause-refused : goal.returns-in-Err-clause-refused
returns-in-Err-clause-refused g c = step_refused _ _ _ _ _ _ c.in-Err.fault c.refusal.result c.refusal.ensures c.in-Err.ensures.refused

pub returns-then-is_foreign_seat-clause-refused : goal.returns-then-is_foreign_seat-clause-refused
returns-then-is_foreign_seat-clause-refused g c = foreign_refused g.C.Recorded.kind_of (λ f. g.C.Recorded.may_refuse c.args.self.now.recorded c.args.step f) _ _ _ _ _ (ap ForeignPass c.entries-entries.ensures.len) (c.is_foreign_seat.ensures.0 c.if-is_foreign_seat.true)
