-- What takes memory.
use Rattle.std.proofs.Common.{◌≡◌, Bool, true, false, Ok, Err, refl}
use Rattle.std.specs.Prelude.{if◌then◌else◌}
use Rattle.messages.specs.declared.refusal.AgentRefusal.TheVariants.{NoRoom}
use Rattle.cluster_model.specs.Agents.{Draft}
use Rattle.agent_core.specs.Drafts.{takes_memory}

pub room_takes_memory : (has_room : Bool) (d : Draft) → takes_memory (if has_room then Ok d else Err NoRoom) ≡ true
room_takes_memory true d = refl
room_takes_memory false d = refl
