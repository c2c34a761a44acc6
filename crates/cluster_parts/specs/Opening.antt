-- What a cluster has at its opening.
use Rattle.std.specs.Prelude.{◌≡◌, ℕ, false, List, Option, Some, Result, Ok, Err, ⊤}
use Rattle.messages.specs.declared.record.RecordParts.{RecordParts}
use Rattle.master_agents.specs.declared.config.ConfiguredAgent.{ConfiguredAgent}
use Rattle.cluster_model.specs.Masters.{Master}
use Rattle.cluster_model.specs.Steps.{Setup, open_cluster, opening}
use Rattle.cluster_laws.specs.Parts.{recovered_part}
use Rattle.master_core.specs.Steps.{greeting, outs_of}
use Rattle.master_state.specs.States.{fresh}
use Rattle.master_state.specs.Works.{master_of}
use Rattle.master_state.specs.declared.fault.MasterFault.{MasterFault}
use Rattle.master_state.specs.declared.fault.MasterFault.TheVariants as fault
use Rattle.master_state.specs.declared.state.Outs.{Outs}
use Rattle.cluster_agents.specs.Agents.{KeptAgent}
use Rattle.cluster_parts.specs.Masters.{StandsFor}
use Rattle.cluster_agents.specs.Moves.{kept_agents}
use Rattle.cluster_parts.specs.declared.opening.Opened.{Opened}

-- an agent that came up over its record
abbrev pub up_over : RecordParts → KeptAgent
up_over d = record { part = recovered_part d; is_down = false }

-- the master that begins a run over configured agents
abbrev pub new_master : ℕ → List ConfiguredAgent → Master
new_master run agents = master_of (fresh run agents)

-- a new master serves and sends every agent a Hello; or memory was refused
abbrev pub Starts : Result Outs MasterFault → Option (Option Master) → ℕ → List ConfiguredAgent
    → Type 0
Starts (Ok outs) master run agents =
    (master ≡ Some (Some (new_master run agents)))
    × (outs ≡ outs_of (new_master run agents) (greeting (new_master run agents)))
Starts (Err fault.OutOfMemory) master run agents = ⊤
Starts (Err (fault.Refused refusal)) master run agents = ⊥

-- what represents the opening, and what it outputs
pub record Opens {T : Type 0} (setup : Setup) (records : List RecordParts) (opened : Opened T) : Type 0 where
  pub agents : opened.agents.items ≡ kept_agents (opening setup records).state
  pub stands : StandsFor (opening setup records).state opened.served.master opened.served.items
      opened.served.streams
  pub in_run : (opening setup records).state.world.run.number ≡ setup.run
  pub outputs : opened.outputs ≡ (open_cluster setup records).outputs
