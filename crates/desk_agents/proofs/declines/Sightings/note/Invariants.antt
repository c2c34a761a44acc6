use Rattle.std.proofs.Common.{◌≡◌, take}
use Rattle.names_core.specs.Ids.{Numbered}
use Rattle.desk_agents.specs.Declines.{first_seen, noted_of}
use Rattle.desk_agents.proofs.declines.Sightings.note.Given as goal

abbrev pub invariant-loop-offer : goal.invariant-loop-offer
invariant-loop-offer l = (id : Numbered) → first_seen l.first id ≡ noted_of l.now (first_seen l.fn.self.first) (take l.offer-index l.offers) id
