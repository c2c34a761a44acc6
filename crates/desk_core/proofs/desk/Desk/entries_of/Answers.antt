use Rattle.std.proofs.Common.{◌<◌, ◌∙◌, sym, ap, arith, length}
use Rattle.desk_core.specs.Seats.{DeskState}
use Rattle.desk_core.proofs.Rows.{seat_count, count_above}
use Rattle.desk_core.proofs.desk.Desk.entries_of.Goals as goal

pub returns-then-seat-counts : goal.returns-then-seat-counts
returns-then-seat-counts g c =
    let seats = c.self.inside.seats.items in
    let same = ap (λ (d : DeskState g.row.C.Denot). d.seats) c.self.view_is in
    let above : length c.self.inside.counts.items < c.args.seat = let t = c.if-seat-counts.true in let n = c.as_slice-counts.ensures.len in let v = ap length c.as_slice-counts.ensures.value in omega arith in
    sym (ap (λ ss. seat_count c.args.seat ss) (sym same) ∙ count_above (length c.self.inside.counts.items) c.args.seat seats c.self.invariant.opened above)
