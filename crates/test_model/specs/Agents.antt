-- An agent of 4 CPUs that reports to a master, in a world of its own;
-- and what a step of the master makes of that world.
use Rattle.std.specs.Prelude.{ℕ, List, [], ◌∷◌, ◌++◌}
use Rattle.names_core.specs.Ids.{Numbered}
use Rattle.quantity.specs.declared.rows.Row.{Row}
use Rattle.messages.specs.declared.task.Job.{Job}
use Rattle.cluster_model.specs.Sides.{Run, Side, Sending, SendHello, MakeOffer}
use Rattle.cluster_model.specs.Channels.{Channel, InRun, World, Happening, At, ByMaster, Receive, ByAgent, DrawMail, Adopt, in_front}
use Rattle.test_model.specs.Short.{id, row, job}

abbrev pub n_a1 : List ℕ
n_a1 = 97 ∷ 49 ∷ []

abbrev pub n_t1 : List ℕ
n_t1 = 116 ∷ 49 ∷ []

abbrev pub cpus : ℕ → List Row
cpus amount = row (99 ∷ 112 ∷ 117 ∷ 115 ∷ []) amount ∷ []

-- a task of 2 CPUs of the first framework
abbrev pub job_of_two : Numbered → Job
job_of_two key = job key (id 1 1) n_t1 (cpus 2)

-- the agent receives a Hello, and the master its Report
abbrev pub reporting : List Happening
reporting =
    At n_a1 (ByMaster SendHello) ∷ At n_a1 (ByAgent (DrawMail 0)) ∷ At n_a1 (ByAgent Adopt)
    ∷ At n_a1 (Receive 0) ∷ []

-- the agent applies the mail at a place, if it was sent
abbrev pub applying : ℕ → List Happening
applying place = At n_a1 (ByAgent (DrawMail place)) ∷ At n_a1 (ByAgent Adopt) ∷ []

-- the master offers all that the agent owns, if that is free
abbrev pub offering : Numbered → Numbered → Happening
offering offer framework =
    At n_a1
    (ByMaster (MakeOffer (record { id = offer; framework = framework; resources = cpus 4 })))

-- a channel with what the master makes of its side
abbrev pub with_sending : Channel → Sending → InRun
with_sending c x =
    record { run = x.run; channel = record c { side = x.side; to_agent = c.to_agent ++ x.sent } }

abbrev pub at_first : (Run → Side → Sending) → Run → List Channel → World
at_first step run [] = record { run = run; channels = [] }
at_first step run (c ∷ cs) = in_front (with_sending c (step run c.side)) cs

-- the world after a step of the master at its agent
abbrev pub after_step : (Run → Side → Sending) → World → World
after_step step w = at_first step w.run w.channels
