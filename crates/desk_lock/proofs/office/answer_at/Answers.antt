use Rattle.std.proofs.Common.{◌+◌, length, subst, sym}
use Rattle.desk_core.specs.Receipts.{AnswersBy, PassState}
use Rattle.desk_core.specs.Refused.{MayRefuseCall}
use Rattle.desk_core.specs.Seats.{DeskState}
use Rattle.desk_lock.proofs.Waits.{answered_so, refused_so}
use Rattle.desk_lock.proofs.office.answer_at.Goals as goal

pub returns-clause-answered : goal.returns-clause-answered
returns-clause-answered g c =
    let seats = c.counts.new.self in
    let same = c.counts.ensures.unchanged in
    answered_so c.answer.result c.answer.ensures.answered c.answer.ensures.entered c.answer.ensures.taken
    (λ a by entered taken. record {
      answers = subst (λ (p : PassState g.row.C-Entry.Denot). AnswersBy g.C.Recorded.step_of p c.answer.new.pass c.args.step a.receipt) same.1 by;
      is_taken = record {
        old = seats.recorded;
        new = c.answer.new.self.recorded;
        is_sound = subst (λ (d : DeskState g.row.C.Denot). g.C.Recorded.sound d.recorded) (sym same.0) c.is_sound.ensures.is_sound;
        taken = taken;
        entered = entered.entry;
        number = entered.number;
      };
    })

pub returns-clause-refused : goal.returns-clause-refused
returns-clause-refused g c =
    let history = g.C.Recorded.history in
    refused_so c.answer.result _ _
    (λ fault why. (
      c.args.desk.now,
      c.is_sound.ensures,
      c.counts.ensures.counts,
      subst (λ (d : DeskState g.row.C.Denot). MayRefuseCall g.C.Recorded.kind_of (λ f. g.C.Recorded.may_refuse d.recorded c.args.step f) (length (history d.recorded) + 1) d.opened c.args.pass.now.seat c.args.pass.now.seen fault)
          c.counts.ensures.unchanged.0
          (subst (λ (p : PassState g.row.C-Entry.Denot). MayRefuseCall g.C.Recorded.kind_of (λ f. g.C.Recorded.may_refuse c.counts.new.self.recorded c.args.step f) (length (history c.counts.new.self.recorded) + 1) c.counts.new.self.opened p.seat p.seen fault)
          c.counts.ensures.unchanged.1 why),
    ))
    c.answer.ensures.refused
