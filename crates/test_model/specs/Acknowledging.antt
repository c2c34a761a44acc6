-- What is acknowledged of a task: what its agent sends, and what the master forwards.
use Rattle.std.specs.Prelude.{false, List, [], ◌∷◌, ◌++◌, map, flat_map, Some}
use Rattle.messages.specs.declared.call.Call.TheVariants.{Acknowledge}
use Rattle.messages.specs.declared.mail.AgentMail.{AgentMail}
use Rattle.messages.specs.declared.mail.AgentMail.TheVariants.{Report, Applied, Update}
use Rattle.cluster_model.specs.Agents.{Agent, fronts}
use Rattle.cluster_model.specs.Channels.{World, after_all}
use Rattle.cluster_model.specs.Masters.{MasterEffect, Framework, Master, new_registers}
use Rattle.cluster_model.specs.Calls.{on_acknowledge}
use Rattle.cluster_model.specs.Clusters.{Called, Post, sides_of}
use Rattle.cluster_model.specs.Steps.{happening_of}
use Rattle.test_model.specs.Short.{id, uuid}
use Rattle.test_model.specs.Agents.{n_a1, n_t1, applying}
use Rattle.test_model.specs.Worlds.{updated}

-- the updates that an agent sends as it reports
abbrev pub sends : Agent → List AgentMail
sends a = fronts a

-- the call by which the task's framework acknowledges an update
abbrev pub acknowledges : AgentMail → List Post
acknowledges (Update session key k state ended) =
    Called (Some (id 2 1)) (Acknowledge (id 1 1) n_a1 n_t1 (uuid key k)) ∷ []
acknowledges (Report session run tasks total) = []
acknowledges (Applied session count) = []

abbrev pub acknowledged_in : World → List Post
acknowledged_in w = flat_map (λ c. flat_map acknowledges (sends c.agent)) w.channels

-- of each update that is sent
abbrev pub acknowledgements : List Post
acknowledgements = acknowledged_in updated

-- a framework that isn't the task's
abbrev pub foreign : Framework
foreign =
    record {
      id = id 2 1;
      role = 42 ∷ [];
      stream = Some (id 2 1);
      suppressed = false;
      last_beat = 0;
      filters = [];
    }

-- it acknowledges the update that the master last received
abbrev pub foreign_calls : List Post
foreign_calls = Called (Some (id 2 1)) (Acknowledge (id 2 1) n_a1 n_t1 (uuid (id 1 1) 0)) ∷ []

-- what the master does then
abbrev pub answers : Master → MasterEffect
answers m = on_acknowledge m n_a1 n_t1 (id 1 1) 0 foreign

abbrev pub master_in : World → Master
master_in w = record { run = w.run; sides = sides_of w.channels; registers = new_registers }

abbrev pub after_answer : World → World
after_answer w = after_all (map happening_of (answers (master_in w)).moves ++ applying 1) w

abbrev pub after_foreign : World
after_foreign = after_answer updated
