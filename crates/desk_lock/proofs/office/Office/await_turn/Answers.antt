use Rattle.desk_lock.proofs.office.Office.await_turn.Goals as goal

pub returns-in-End : goal.returns-in-End
returns-in-End g c = record { desk = c.deref-locked.result.now; is_found = c.is_sound.ensures; stops = c.turn_at.ensures c.in-End.is }
