-- All commands of a session: one that is issued twice is two of them.
use Rattle.std.specs.Prelude.{◌∷◌}
use Rattle.messages.specs.declared.mail.AgentMail.TheVariants.{Applied}
use Rattle.cluster_model.specs.Sides.{Run, Side, Sending, SendKill, side_step, sends_nothing, received}
use Rattle.cluster_model.specs.Channels.{World, At, ByMaster, after_all}
use Rattle.test_model.specs.Short.{id}
use Rattle.test_model.specs.Agents.{n_a1, applying, after_step}
use Rattle.test_model.specs.Worlds.{running}

-- what the master makes of the count of commands that its agent has applied
abbrev pub counts_applied : Run → Side → Sending
counts_applied run s = sends_nothing run (received run s (Applied 1 1))

-- a KILL of the task was forwarded, and is known to be applied
abbrev pub killed : World
killed =
    after_step counts_applied
    (after_all (At n_a1 (ByMaster (SendKill (id 1 1))) ∷ applying 1) running)

-- what the master does at its side as it forwards another KILL of the task
abbrev pub kills_again : Run → Side → Sending
kills_again run s = side_step run s (SendKill (id 1 1))

abbrev pub after_second : World
after_second = after_step kills_again killed
