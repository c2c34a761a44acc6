-- The records of agents that never ran.
use Rattle.std.specs.Prelude.{List, map}
use Rattle.messages.specs.declared.record.RecordParts.{RecordParts}
use Rattle.master_agents.specs.declared.config.ConfiguredAgent.{ConfiguredAgent}
use Rattle.cluster_model.specs.Agents.{fresh}

abbrev pub fresh_record : ConfiguredAgent → RecordParts
fresh_record a = fresh a.name a.total

abbrev pub fresh_records : List ConfiguredAgent → List RecordParts
fresh_records agents = map fresh_record agents
