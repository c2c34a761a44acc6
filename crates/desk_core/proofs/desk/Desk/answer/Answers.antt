use Rattle.std.proofs.Common.{◌++◌, ◌∷◌, [], ◌∙◌, ap, arith, length, length-append}
use Rattle.desk_core.specs.Seats.{DeskState}
use Rattle.desk_core.specs.Receipts.{PassState}
use Rattle.desk_core.proofs.Answering.{pushed_is, stands_more}
use Rattle.desk_core.proofs.desk.Desk.answer.Goals as goal
use Rattle.desk_core.proofs.desk.Desk.answer.Goals.{in-Ok, in-Err}

pub returns-clause-answered : goal.returns-clause-answered
returns-clause-answered g c = elim c.match-enter.branch [
  | in-Ok w ↦ (
      let r = w.in-Ok.answered.receipt in
      let e = w.in-Ok.ensures.entered in
      let was = c.slip.view_is ∙ c.pass.view_is in
      let number = e.enters.number in
      rw (w.result-is, w.pass-inside-is) record {
        of_step = e.of_step;
        later = let seen = ap (λ (q : PassState g.row.C-Entry.Denot). q.seen) was in let l = e.later in omega arith;
        pushed = pushed_is c.args.pass.now c.slip.inside.seat c.slip.inside.seen w.count-slip-inside.result c.slip.inside.receipts.items w.count-slip-inside.new.receipts.items r was
            (w.count-slip-inside.ensures.pushed ∙ ap (λ xs. xs ++ r ∷ []) c.enter.ensures.same)
            (let n = w.count-slip-inside.ensures.len in let grown = ap length e.enters.entry in let one = length-append (g.C.Recorded.history c.args.self.now.recorded) (r.entry ∷ []) in omega arith);
      })
  | in-Err w ↦ rw w.result-is tt
]

pub returns-clause-stands : goal.returns-clause-stands
returns-clause-stands g c = elim c.match-enter.branch [
  | in-Ok w ↦ (
      let history = g.C.Recorded.history in
      let r = w.in-Ok.answered.receipt in
      let e = w.in-Ok.ensures.entered in
      let after = w.count-slip-inside.ensures.counted in
      let was = c.slip.view_is ∙ c.pass.view_is in
      let number = e.enters.number in
      rw (w.result-is, w.self-is, w.pass-inside-is) (λ stood.
      stands_more (history c.args.self.now.recorded) (history w.count-slip-inside.new.self.recorded) c.args.self.now.seats w.count-slip-inside.new.self.seats c.args.pass.now _ r stood
      e.level
      (ap (λ (d : DeskState g.row.C.Denot). d.seats) after ∙ e.enters.seated ∙ ap (λ s. c.args.self.now.seats ++ s ∷ []) (ap (λ (q : PassState g.row.C-Entry.Denot). q.seat) was))
      (ap (λ (d : DeskState g.row.C.Denot). history d.recorded) after ∙ e.enters.entry)
      number
      (pushed_is c.args.pass.now c.slip.inside.seat c.slip.inside.seen w.count-slip-inside.result c.slip.inside.receipts.items w.count-slip-inside.new.receipts.items r was
      (w.count-slip-inside.ensures.pushed ∙ ap (λ xs. xs ++ r ∷ []) c.enter.ensures.same)
      (let n = w.count-slip-inside.ensures.len in let grown = ap length e.enters.entry in let one = length-append (history c.args.self.now.recorded) (r.entry ∷ []) in omega arith))))
  | in-Err w ↦ rw w.result-is tt
]
