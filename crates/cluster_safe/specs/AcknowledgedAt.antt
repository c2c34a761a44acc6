-- How many updates of a launch key are acknowledged at its agent, over a whole history, whether its
-- task has left the agent's record or not.
use Rattle.std.specs.Prelude.{◌≡◌, ◌⊎◌, ℕ, suc, ◌<◌, Bool, false, ◌&&◌, ◌==◌, if◌then◌else◌, List, [], ◌∷◌, flat_map, length}
use Rattle.std.specs.List.{AllByRecursion as Each, list_any}
use Rattle.names_core.specs.Ids.{Numbered, same}
use Rattle.messages.specs.declared.task.Job.{Job}
use Rattle.messages.specs.declared.mail.Command.TheVariants.{Ack}
use Rattle.messages.specs.declared.mail.MasterMail.{MasterMail}
use Rattle.messages.specs.declared.mail.MasterMail.TheVariants.{Issued}
use Rattle.messages.specs.declared.record.RecordParts.{RecordParts}
use Rattle.messages.specs.declared.record.RecordedTask.{RecordedTask}
use Rattle.cluster_model.specs.Agents.{is_task}
use Rattle.cluster_model.specs.Channels.{Channel, World, Happening, after, open_world}
use Rattle.cluster_model.specs.Clusters.{Post}
use Rattle.cluster_model.specs.Steps.{Setup, Marked, history}
use Rattle.cluster_safe.specs.Acknowledged.{WasSent, WasCounted, recorded_tasks}
use Rattle.cluster_safe.specs.Honest.{IsKeyOf, counted}
use Rattle.cluster_safe.specs.Updates.{states_under}

abbrev pub has_task : Numbered → Channel → Bool
has_task key c = list_any (is_task key) c.agent.durable.tasks

-- the mail issues an Ack of an update of the key, under this number of this session
abbrev pub is_ack : Numbered → ℕ → ℕ → MasterMail → Bool
is_ack key session number (Issued s n (Ack other k)) = s == session && n == number && same other key
is_ack key session number mail = false

-- the agent's next command is an Ack of an update of the key. A task leaves its record by a command
-- alone, which is the next one: so this Ack took it out, if it left then
abbrev pub next_is_ack : Numbered → Channel → Bool
next_is_ack key c = list_any (is_ack key c.agent.durable.session (suc c.agent.applied)) c.to_agent

-- how many updates are acknowledged at an agent after a step, of so many before it: as many as its
-- record counts, or counted last, and all where an Ack took the task out of it
abbrev pub acknowledged_in : Numbered → ℕ → Channel → Channel → ℕ
acknowledged_in key count old new =
    if has_task key new then counted key new.agent.durable.tasks
    else (if has_task key old && next_is_ack key old
    then length (states_under key old.agent.durable.tasks) else count)

-- the key's task is in one agent's record at most
abbrev pub acknowledged_among : Numbered → ℕ → List Channel → List Channel → ℕ
acknowledged_among key count [] news = count
acknowledged_among key count (old ∷ olds) [] = count
acknowledged_among key count (old ∷ olds) (new ∷ news) =
    acknowledged_among key (acknowledged_in key count old new) olds news

abbrev pub acknowledged_over : Numbered → List Happening → World → ℕ → ℕ
acknowledged_over key [] w count = count
acknowledged_over key (h ∷ hs) w count =
    let next = after w h in
    acknowledged_over key hs next (acknowledged_among key count w.channels next.channels)

-- how many of a key's first updates are acknowledged at its agent, from a world on
abbrev pub acknowledged_at : Numbered → List Happening → World → ℕ
acknowledged_at key hs start =
    acknowledged_over key hs start
    (counted key (flat_map (λ (c : Channel). c.agent.durable.tasks) start.channels))

-- over a list of steps, from an opening
abbrev pub acknowledged_after : Numbered → Setup → List RecordParts → List Marked → ℕ
acknowledged_after key setup records steps =
    acknowledged_at key (history setup records steps).happenings (open_world setup.run records)

-- each update that is acknowledged at its agent, of a key of a framework's task, was named by an
-- ACKNOWLEDGE that this framework sent, or was counted in a record of the opening
abbrev pub OwnersAcknowledged : List RecordParts → List Job → (Numbered → ℕ) → List Post → Type 0
OwnersAcknowledged records jobs count posts =
    (framework key : Numbered) (k : ℕ) → IsKeyOf framework key jobs → k < count key
    → WasSent framework key k posts ⊎ WasCounted key k (recorded_tasks records)

-- each record counts all updates of its tasks that were ever acknowledged
abbrev pub CountAll : (Numbered → ℕ) → World → Type 0
CountAll count w =
    Each (λ (c : Channel). Each (λ (t : RecordedTask). t.updates.acknowledged ≡ count t.job.key)
    c.agent.durable.tasks) w.channels
