use Rattle.std.proofs.Common.{◌<◌}
use Rattle.desk_lock.proofs.Waits.{given_so, refused_so}
use Rattle.desk_lock.proofs.office.open_seat_at.Goals as goal

pub returns-clause-opened : goal.returns-clause-opened
returns-clause-opened g c =
    given_so c.open_seat.result (c.args.desk.now.opened < 4294967295) _ _ c.open_seat.ensures.fewer c.open_seat.ensures.pass (λ p few is. record { desk = c.args.desk.now; is_found = c.is_sound.ensures; fewer = few; next = is })

pub returns-clause-refused : goal.returns-clause-refused
returns-clause-refused g c = refused_so c.open_seat.result _ _ (λ fault why. record { desk = c.args.desk.now; is_found = c.is_sound.ensures; refused = why }) c.open_seat.ensures.refused
