-- Records that are found after a stop are those of the same agents, and a cluster may be opened over them.
use Rattle.std.proofs.Common.{◌≡◌, ◌⊎◌, ℕ, List, [], ◌∷◌, map, Option, Some, None, refl, sym, ap, ◌∙◌, inl, inr}
use Rattle.std.specs.List.{AllByRecursion as Each}
use Rattle.std.proofs.lemmas.List.Sorted.{Contains-permutation, IsPermutation-sym}
use Rattle.messages.specs.declared.record.RecordParts.{RecordParts}
use Rattle.messages.specs.declared.record.RecordedTask.{RecordedTask}
use Rattle.master_agents.specs.declared.config.ConfiguredAgent.{ConfiguredAgent}
use Rattle.cluster_model.specs.Agents.{Draft, live_tasks}
use Rattle.cluster_model.specs.Channels.{Channel, after, open_channel}
use Rattle.cluster_model.specs.Openings.{GoodOpening}
use Rattle.cluster_model.specs.Steps.{Setup, Marked, history}
use Rattle.cluster_safe.specs.Saved.{IsDraftOf, IsFound}
use Rattle.cluster_laws.proofs.Agents.{ChannelOk, DraftOk}
use Rattle.cluster_laws.proofs.Grown.{names_grown, world_grown}
use Rattle.cluster_laws.proofs.Histories.{reached}
use Rattle.cluster_laws.proofs.Named.{AnyMail, HasName, history_named}
use Rattle.cluster_laws.specs.Items.{names_of}
use Rattle.cluster_laws.specs.Parts.{AreAgentsOf, Part, parts_of, recovered_part}
use Rattle.cluster_agents.specs.Records.{AreRecordsOf, in_order}
use Rattle.cluster_core.specs.Stopping.{AreCovered, AreFound, live_of}
use Rattle.cluster_agents.proofs.InOrder.{name_of, of_permuted, of_standing, stand_in_order, stand_named}

-- ---- the agents of a history have the names of its opening's records

history_names : (setup : Setup) (records : List RecordParts) (steps : List Marked) → names_of (history setup records steps).state.world.channels ≡ map name_of records
history_names setup records steps = reached (λ w. names_of w.channels ≡ map name_of records) (λ w h e. names_grown w.channels (after w h).channels (world_grown w h) ∙ e) setup records steps (opened_names records)
  where
    opened_names : (ds : List RecordParts) → names_of (map open_channel ds) ≡ map name_of ds
    opened_names [] = refl
    opened_names (d ∷ ds) = ap (λ (ns : List (List ℕ)). d.name ∷ ns) (opened_names ds)

-- ---- so have the records that are found

draft_name : (c : Channel) (o : Option Draft) (d : RecordParts) → DraftOk (HasName c.side.name) AnyMail o → IsDraftOf o d → d.name ≡ c.side.name
draft_name c None d n e = absurd e
draft_name c (Some draft) d n e = ap name_of e ∙ n.0

found_name : (c : Channel) (d : RecordParts) → ChannelOk HasName AnyMail c → (d ≡ c.agent.durable) ⊎ IsDraftOf c.draft d → d.name ≡ c.side.name
found_name c d n (inl e) = ap name_of e ∙ n.agent
found_name c d n (inr e) = draft_name c c.draft d n.draft e

found_names : (cs : List Channel) (ds : List RecordParts) → Each (ChannelOk HasName AnyMail) cs → IsFound cs ds → map name_of ds ≡ names_of cs
found_names [] [] n f = refl
found_names [] (d ∷ ds) n f = absurd f
found_names (c ∷ cs) [] n f = absurd f
found_names (c ∷ cs) (d ∷ ds) n f = ap (λ (m : List ℕ). m ∷ map name_of ds) (found_name c d n.0 f.0) ∙ ap (λ (ns : List (List ℕ)). c.side.name ∷ ns) (found_names cs ds n.1 f.1)

found_agents : (setup : Setup) (records : List RecordParts) (steps : List Marked) (agents : List ConfiguredAgent) (found : List RecordParts) → AreAgentsOf agents records → IsFound (history setup records steps).state.world.channels found → AreAgentsOf agents found
found_agents setup records steps agents found of is =
    of ∙ sym (found_names (history setup records steps).state.world.channels found (history_named setup records steps) is ∙ history_names setup records steps)

pub found_of : (setup : Setup) (records : List RecordParts) (steps : List Marked) (agents : List ConfiguredAgent) (found : List RecordParts) → AreAgentsOf agents records → AreCovered agents found → AreFound (history setup records steps).state found → AreRecordsOf agents found
found_of setup records steps agents found of own f =
    of_permuted agents f.by_agent found f.moved
    (of_standing agents f.by_agent (stand_named agents f.by_agent (found_agents setup records steps agents f.by_agent of f.is_found) (λ a d h k same. own a d h (Contains-permutation f.by_agent found d f.moved k) same)))

-- ---- in the order of the agents they are as they were found

pub found_in_order : (setup : Setup) (records : List RecordParts) (steps : List Marked) (later : ℕ) (agents : List ConfiguredAgent) (found : List RecordParts) → AreAgentsOf agents records → (f : AreFound (history setup records steps).state found) → GoodOpening later found → in_order agents found ≡ f.by_agent
found_in_order setup records steps later agents found of f again = sym (stand_in_order agents found f.by_agent again.names_once (IsPermutation-sym f.by_agent found f.moved) (found_agents setup records steps agents f.by_agent of f.is_found))

-- ---- the live tasks of agents that come up over records

abbrev live_part : Part → List RecordedTask
live_part p = live_tasks p.agent.durable.tasks

live_parts : (cs : List Channel) → map live_part (parts_of cs) ≡ map (λ (c : Channel). live_tasks c.agent.durable.tasks) cs
live_parts [] = refl
live_parts (c ∷ cs) = ap (λ xs. live_tasks c.agent.durable.tasks ∷ xs) (live_parts cs)

live_recovered : (ds : List RecordParts) → map live_part (map recovered_part ds) ≡ live_of ds
live_recovered [] = refl
live_recovered (d ∷ ds) = ap (λ xs. live_tasks d.tasks ∷ xs) (live_recovered ds)

pub live_so : (cs : List Channel) (ds : List RecordParts) → parts_of cs ≡ map recovered_part ds → map (λ (c : Channel). live_tasks c.agent.durable.tasks) cs ≡ live_of ds
live_so cs ds e = sym (live_parts cs) ∙ ap (λ (ps : List Part). map live_part ps) e ∙ live_recovered ds
