use Rattle.std.proofs.Common.{◌≤◌, ◌++◌, ◌∷◌, [], ◌∙◌, ap, arith, length, length-append}
use Rattle.desk_core.specs.Seats.{DeskState}
use Rattle.desk_core.proofs.Keeps.{count_fits, entered_within, entry_entered}
use Rattle.desk_core.proofs.desk.Desk.apply.Goals as goal

pub count_entry-requires-clause-few : goal.count_entry-requires-clause-few
count_entry-requires-clause-few g c =
    let same = ap (λ (d : DeskState g.row.C.Denot). length (g.C.Recorded.history d.recorded)) c.self.view_is in
    let opened = ap (λ (d : DeskState g.row.C.Denot). d.opened) c.self.view_is in
    let seated : c.entered_as-seat.result ≤ length c.self.inside.counts.items = let e = c.entered_as-seat.ensures in let w = entered_within c.args.self.now.opened c.args.seat in omega arith in
    λ n some at. count_fits _ _ c.self.inside.counts.items _ _ c.entered_as-seat.result n c.self.invariant some seated (let m = c.len-number.ensures.most in omega arith) at

pub invariant_of-self-in-Ok : goal.invariant_of-self-in-Ok
invariant_of-self-in-Ok g c =
    let counts = c.self.inside.counts.items in
    let opened = ap (λ (d : DeskState g.row.C.Denot). d.opened) c.self.view_is in
    let seated : c.entered_as-seat.result ≤ length counts = let e = c.entered_as-seat.ensures in let w = entered_within c.args.self.now.opened c.args.seat in omega arith in
    let grown = ap length c.in-Ok.ensures.entry in
    let one = length-append (g.C.Recorded.history c.self.inside.recorded) (c.in-Ok.entered.entry ∷ []) in
    entry_entered _ _ c.self.inside.seats.items c.push_reserved.new.self.items counts c.count_entry.new.counts.items _ _ c.entered_as-seat.result c.self.invariant seated
    (omega arith)
    (c.push_reserved.ensures.items ∙ ap (λ xs. xs ++ c.entered_as-seat.result ∷ []) c.reserve.ensures.items)
    c.count_entry.ensures
