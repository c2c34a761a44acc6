use Rattle.std.proofs.Common.{arith, refl}
use Rattle.keep_store.proofs.open.keeper_over.Goals as goal

pub returns-in-Ok-adopt-clause-found : goal.returns-in-Ok-adopt-clause-found
returns-in-Ok-adopt-clause-found g c clean = (c.in-Ok.conn, c.in-Ok.is, c.in-Ok-adopt.ensures.clean clean, c.in-Ok-adopt.ensures.found clean)

pub returns-in-Ok-adopt-clause-moved : goal.returns-in-Ok-adopt-clause-moved
returns-in-Ok-adopt-clause-moved g c clean = (c.in-Ok.conn, c.in-Ok.is, c.in-Ok-adopt.ensures.clean clean, c.in-Ok-adopt.ensures.moved clean)

pub returns-in-Ok-adopt-clause-moved_rows : goal.returns-in-Ok-adopt-clause-moved_rows
returns-in-Ok-adopt-clause-moved_rows g c clean = (c.in-Ok.conn, c.in-Ok.is, c.in-Ok-adopt.ensures.clean clean, c.in-Ok-adopt.ensures.moved_rows clean)

pub returns-in-Ok-adopt-clause-was_known : goal.returns-in-Ok-adopt-clause-was_known
returns-in-Ok-adopt-clause-was_known g c clean = (c.in-Ok.conn, c.in-Ok.is, c.in-Ok-adopt.ensures.clean clean, c.in-Ok-adopt.ensures.was_known clean)

pub returns-in-Err-adopt-clause-damaged : goal.returns-in-Err-adopt-clause-damaged
returns-in-Err-adopt-clause-damaged g c = λ is.
    let left = c.in-Err-adopt.conn in
    (c.in-Ok.conn, left, c.in-Ok.is, refl, λ clean. (omega (arith, c.in-Err-adopt.ensures.stop.clean), λ mode known. c.in-Err-adopt.ensures.known mode known clean is))
