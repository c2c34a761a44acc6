-- What the master keeps of an agent. Each run ends with an offer of all that the agent owns,
-- which is made only where the master takes all of it for free.
use Rattle.std.specs.Prelude.{true, [], ◌∷◌}
use Rattle.names_core.specs.declared.state.TaskState.TheVariants.{Finished}
use Rattle.messages.specs.declared.mail.AgentMail.TheVariants.{Report, Update}
use Rattle.messages.specs.declared.task.Offer.{Offer}
use Rattle.cluster_model.specs.Sides.{Run, Side, Sending, LaunchFrom, SendKill, SendEnd, MakeOffer, Lose, side_step, sends_nothing, received}
use Rattle.cluster_model.specs.Channels.{World, At, TearDown, ByMaster, after, after_all}
use Rattle.test_model.specs.Short.{id}
use Rattle.test_model.specs.Agents.{n_a1, cpus, job_of_two, applying, offering, after_step}
use Rattle.test_model.specs.Worlds.{running, launched_twice, offered, launched}

-- what the master does at its side as it forwards a KILL of the task
abbrev pub forwards_kill : Run → Side → Sending
forwards_kill run s = side_step run s (SendKill (id 1 1))

abbrev pub after_kill : World
after_kill = after (after_step forwards_kill running) (offering (id 2 1) (id 1 1))

-- what it does there as the task's framework is torn down
abbrev pub sends_end : Run → Side → Sending
sends_end run s = side_step run s (SendEnd (id 1 1))

abbrev pub after_teardown : World
after_teardown =
    after (after_step sends_end (after running (TearDown (id 1 1)))) (offering (id 2 1) (id 2 1))

-- what it makes of the update of the launch that has ended
abbrev pub receives_update : Run → Side → Sending
receives_update run s = sends_nothing run (received run s (Update 1 (id 1 1) 0 Finished true))

abbrev pub after_update : World
after_update = after (after_step receives_update launched_twice) (offering (id 2 1) (id 1 1))

abbrev pub second_offer : Offer
second_offer = record { id = id 1 2; framework = id 1 2; resources = cpus 4 }

-- what it does as it would offer to another framework what is offered already
abbrev pub makes_offer : Run → Side → Sending
makes_offer run s = side_step run s (MakeOffer second_offer)

abbrev pub after_offer : World
after_offer = after_step makes_offer offered

-- what it does at an ACCEPT of the first offer that launches a task
abbrev pub accepts : Run → Side → Sending
accepts run s = side_step run s (LaunchFrom (id 1 1) (id 1 1 ∷ []) (job_of_two (id 1 1) ∷ []))

abbrev pub after_accept : World
after_accept = after_all (applying 1) (after_step accepts offered)

-- what it makes of the Report that opened the session if that comes again
abbrev pub receives_again : Run → Side → Sending
receives_again run s = sends_nothing run (received run s (Report 1 1 [] (cpus 4)))

abbrev pub after_repeat : World
after_repeat = after (after_step receives_again launched) (offering (id 1 2) (id 1 1))

-- what it makes of it once the session is closed
abbrev pub receives_closed : Run → Side → Sending
receives_closed run s = sends_nothing run (received run s (Report 1 1 [] (cpus 4)))

abbrev pub after_closed : World
after_closed =
    after (after_step receives_closed (after launched (At n_a1 (ByMaster Lose))))
    (offering (id 1 2) (id 1 1))
