-- What is acknowledged of a task at its agent, and stays so once the task has left the record.
use Rattle.std.specs.Prelude.{ℕ, suc, List, [], ◌∷◌, ◌++◌, map, Some}
use Rattle.names_core.specs.Ids.{Numbered}
use Rattle.messages.specs.declared.call.Call.TheVariants.{Acknowledge}
use Rattle.messages.specs.declared.mail.Command.TheVariants.{Ack}
use Rattle.messages.specs.declared.record.RecordedTask.{RecordedTask}
use Rattle.cluster_model.specs.Agents.{tasks_after, with_tasks}
use Rattle.cluster_model.specs.Sides.{SendAck, SendEnd}
use Rattle.cluster_model.specs.Channels.{Channel, World, Happening, At, TearDown, ByMaster, after_all, open_world}
use Rattle.cluster_model.specs.Clusters.{Called, Post}
use Rattle.cluster_safe.specs.AcknowledgedAt.{acknowledged_among, acknowledged_at}
use Rattle.test_model.specs.Short.{id, uuid}
use Rattle.test_model.specs.Agents.{n_a1, n_t1, reporting, applying}
use Rattle.test_model.specs.Worlds.{with_updates}

-- the world in which the master comes to an agent with a task of two updates
abbrev pub before_acks : World
before_acks = open_world 2 with_updates

-- the master issues an Ack of an update, and the agent applies it
abbrev pub acks : ℕ → List Happening
acks k = At n_a1 (ByMaster (SendAck (id 1 1) k)) ∷ applying (suc k)

abbrev pub first_is_acked : List Happening
first_is_acked = reporting ++ acks 0

abbrev pub both_are_acked : List Happening
both_are_acked = first_is_acked ++ acks 1

-- the framework is torn down once the first is acknowledged
abbrev pub framework_ends : List Happening
framework_ends =
    first_is_acked ++ TearDown (id 1 1) ∷ At n_a1 (ByMaster (SendEnd (id 1 1))) ∷ applying 2

abbrev pub tasks_after_all : List Happening → List (List RecordedTask)
tasks_after_all hs = map (λ c. c.agent.durable.tasks) (after_all hs before_acks).channels

-- the framework acknowledges the first update alone
abbrev pub first_call : List Post
first_call =
    Called (Some (id 2 1)) (Acknowledge (id 1 1) n_a1 n_t1 (uuid (id 1 1) 0)) ∷ []

abbrev pub issues_first : List Happening
issues_first = reporting ++ At n_a1 (ByMaster (SendAck (id 1 1) 0)) ∷ []

-- what an agent makes of its tasks at the Ack of that update
abbrev pub at_first_ack : List RecordedTask → List RecordedTask
at_first_ack ts = tasks_after (Ack (id 1 1) 0) ts

abbrev pub applies_first : Channel → Channel
applies_first c =
    record c { agent = with_tasks c.agent (at_first_ack c.agent.durable.tasks) (suc c.agent.applied) }

-- what is acknowledged at the agent then
abbrev pub acknowledged_then : Numbered → ℕ
acknowledged_then key =
    let w = after_all issues_first before_acks in
    acknowledged_among key (acknowledged_at key issues_first before_acks) w.channels
    (map applies_first w.channels)
