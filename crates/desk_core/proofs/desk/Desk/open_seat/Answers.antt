use Rattle.std.proofs.Common.{rules, ◌<◌, ◌+◌, ◌∙◌, sym, ap, arith, length, map}
use Rattle.desk_core.specs.Receipts.{numbered}
use Rattle.desk_core.proofs.Keeps.{seat_opened}
use Rattle.desk_core.proofs.Rows.{entries_none}
use Rattle.desk_core.proofs.desk.Desk.open_seat.Goals as goal

pub invariant_of-self-2 : goal.invariant_of-self-2
invariant_of-self-2 g c =
    let few : length c.self.inside.counts.items < 4294967295 = let n = c.len-opened.ensures in let f = c.if-opened.false in omega arith in
    seat_opened _ _ c.self.inside.counts.items c.push.new.self.items _ _ _ c.self.invariant few (let f = c.if-is_err.false in search rules) (let p = c.split_off.ensures.parts_left in omega arith)

pub returns-clause-stands : goal.returns-clause-stands
returns-clause-stands g c =
    ap (λ rs. map numbered rs) c.new.ensures.items
    ∙ sym (entries_none (length c.self.inside.counts.items) (c.len-opened.result + 1) 1 c.self.inside.seats.items (g.C.Recorded.history c.self.inside.recorded) c.self.invariant.opened (let n = c.len-opened.ensures in omega arith))
