-- What becomes of a booked task.
use Rattle.std.specs.Prelude.{true, if◌then◌else◌}
use Rattle.names_core.specs.Ids.{Numbered, same}
use Rattle.messages.specs.declared.task.Booked.{Booked}

-- a task of this key has ended
abbrev pub ended : Numbered → Booked → Booked
ended key b =
    if same b.job.key key
    then record { job = b.job; ended = true; received = b.received; state = b.state }
    else b
