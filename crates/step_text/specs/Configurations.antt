-- A configuration that was read, as its line says it.
use Rattle.step_text.specs.Configs.{Configured}
use Rattle.master_agents.specs.declared.config.Config.{Config}

abbrev pub configured_by : Config → Configured
configured_by c = record { agents = c.agents; weights = c.weights }
