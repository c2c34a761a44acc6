-- What may be found of the agents' records after a stop.
use Rattle.std.specs.Prelude.{◌≡◌, ◌⊎◌, List, [], ◌∷◌, Option, Some, None, ⊤}
use Rattle.messages.specs.declared.record.RecordParts.{RecordParts}
use Rattle.cluster_model.specs.Agents.{Draft}
use Rattle.cluster_model.specs.Channels.{Channel}

-- the record of an open draft
abbrev pub IsDraftOf : Option Draft → RecordParts → Type 0
IsDraftOf None d = ⊥
IsDraftOf (Some draft) d = d ≡ draft.after.durable

-- for each agent its record or that of its open draft
abbrev pub IsFound : List Channel → List RecordParts → Type 0
IsFound [] [] = ⊤
IsFound [] (d ∷ ds) = ⊥
IsFound (c ∷ cs) [] = ⊥
IsFound (c ∷ cs) (d ∷ ds) = ((d ≡ c.agent.durable) ⊎ IsDraftOf c.draft d) × IsFound cs ds
