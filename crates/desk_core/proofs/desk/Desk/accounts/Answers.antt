use Rattle.std.proofs.Common.{◌∙◌, sym, ap, length}
use Rattle.desk_core.specs.Seats.{DeskState}
use Rattle.desk_core.proofs.Answering.{accounts_yes, accounts_rise, accounts_as_many, rises_as, rises_from}
use Rattle.desk_core.proofs.Rows.{seat_count}
use Rattle.desk_core.proofs.desk.Desk.accounts.Goals as goal

pub returns-then-entries_of-receipts : goal.returns-then-entries_of-receipts
returns-then-entries_of-receipts g c =
    let d = c.args.self.now in
    let p = c.args.slip.now in
    let history = g.C.Recorded.history d.recorded in (
      (λ h. cc),
      (λ stands.
          let as_many = accounts_as_many history d.seats p c.entries.ensures.seated stands in
          absurd (c.if-entries_of-receipts.true (c.entries_of.ensures ∙ ap (λ s. seat_count s d.seats) c.seat-seat.ensures ∙ sym as_many ∙ sym (ap length c.receipts-receipts.ensures)))),
    )

pub returns : goal.returns
returns g c =
    let d = c.args.self.now in
    let p = c.args.slip.now in
    let history = g.C.Recorded.history d.recorded in
    let es = g.C.Recorded.history c.self.inside.recorded in
    let he = ap (λ (x : DeskState g.row.C.Denot). g.C.Recorded.history x.recorded) c.self.view_is in
    let hs = c.as_slice.ensures.value ∙ ap (λ (x : DeskState g.row.C.Denot). x.seats) c.self.view_is in
    let hr = c.receipts-receipts.ensures in
    let same = c.seat-seat.ensures in
    let level = c.entries.ensures.seated in
    let as_many = sym (ap length hr) ∙ sym c.if-entries_of-receipts.false ∙ c.entries_of.ensures ∙ ap (λ s. seat_count s d.seats) same in (
      (λ t. accounts_yes history d.seats p level as_many
          (rises_as history es d.seats c.as_slice.result.now p c.receipts-receipts.result.now c.seat-seat.result he hs hr same (c.rise.ensures.0 t))),
      (λ stands. c.rise.ensures.1
          (rises_from history es d.seats c.as_slice.result.now p c.receipts-receipts.result.now c.seat-seat.result he hs hr same (accounts_rise history d.seats p level stands))),
    )
