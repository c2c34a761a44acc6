-- What a look that found an office finished says.
use Rattle.std.proofs.Common.{◌≡◌, List, Option, Result, subst}
use Rattle.desk_lock.specs.Waits.{WaitEnds}
use Rattle.desk_lock.specs.declared.office.Waited.{Waited}
use Rattle.desk_lock.specs.declared.office.Waited.TheVariants.{Finished}
use Rattle.http_serve.specs.Arrivals.{IsFinished}

-- the wait ended at a finished desk
pub finished_by : {T C E F : Type 0} (history : C → List E) (sound : C → Type 0) (gives : C → Result (Option T) F → Type 0) (waited : Waited T) → waited ≡ Finished → WaitEnds history sound gives waited → IsFinished history sound
finished_by {T} history sound gives waited is found =
    let ends : WaitEnds history sound gives Finished = subst (λ (w : Waited T). WaitEnds history sound gives w) is found in
    record { desk = ends.desk; is_found = ends.is_found; finished = ends.ends }
