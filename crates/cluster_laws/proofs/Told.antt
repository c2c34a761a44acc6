-- What is told of the side of a name is told of the side of its channel.
use Rattle.std.proofs.Common.{◌≡◌, ◌∙◌, ℕ, Bool, true, false, List, [], ◌∷◌, map, Some, refl, ap, bytes_eq}
use Rattle.messages.specs.declared.mail.AgentMail.{AgentMail}
use Rattle.messages.specs.declared.record.RecordParts.{RecordParts}
use Rattle.master_agents.specs.Changes.{side_of}
use Rattle.master_agents.specs.Configs.{names_of}
use Rattle.master_agents.specs.declared.config.ConfiguredAgent.{ConfiguredAgent}
use Rattle.master_agents.specs.Looks.{value_of}
use Rattle.cluster_model.specs.Sides.{Side, new_run, new_side}
use Rattle.cluster_model.specs.Channels.{Channel, open_channel}
use Rattle.cluster_model.specs.Clusters.{Cluster, master_of, sides_of}
use Rattle.cluster_model.specs.Mails.{agent_lost, mail_effect}
use Rattle.cluster_model.specs.Masters.{new_registers, nothing}
use Rattle.cluster_model.specs.Steps.{Setup, channel_of, opened_over}
use Rattle.master_agents.specs.Named.{lost_by, mailed_by}
use Rattle.master_state.specs.States.{fresh}
use Rattle.master_state.specs.Works.{master_of as master_in}
use Rattle.cluster_laws.specs.Items.{channel_at}
use Rattle.cluster_laws.specs.Parts.{AreAgentsOf}

told_is : {X : Type 0} (agent : List ℕ) (cs : List Channel) (x : Channel) (tell : Side → X) (none : X) → channel_at agent cs ≡ Some x → value_of agent tell none (sides_of cs) ≡ tell x.side
told_is agent [] x tell none e = absurd cc
told_is agent (c ∷ cs) x tell none e = by (bytes_eq c.side.name agent) refl e (λ f. told_is agent cs x tell none f)
  where
    by : (t : Bool) → bytes_eq c.side.name agent ≡ t → channel_at agent (c ∷ cs) ≡ Some x → (channel_at agent cs ≡ Some x → value_of agent tell none (sides_of cs) ≡ tell x.side) → value_of agent tell none (sides_of (c ∷ cs)) ≡ tell x.side
    by true b f rest =
        let found_it : Some c ≡ Some x = rw b at f in
        let is : c ≡ x = cc in
        rw b (ap (λ (y : Channel). tell y.side) is)
    by false b f rest = rw b (rest (rw b at f))

pub lost_is : (c : Cluster) (agent : List ℕ) (x : Channel) → channel_of c agent ≡ Some x → lost_by (master_of c) agent ≡ agent_lost (master_of c) x.side
lost_is c agent x e = told_is agent c.world.channels x (agent_lost (master_of c)) (nothing (master_of c)) e

pub mailed_is : (c : Cluster) (agent : List ℕ) (x : Channel) (mail : AgentMail) → channel_of c agent ≡ Some x → mailed_by (master_of c) agent mail ≡ mail_effect (master_of c) x.side mail
mailed_is c agent x mail e = told_is agent c.world.channels x (λ s. mail_effect (master_of c) s mail) (nothing (master_of c)) e

sides_are : (agents : List ConfiguredAgent) (records : List RecordParts) → AreAgentsOf agents records → map side_of agents ≡ sides_of (map open_channel records)
sides_are [] [] e = refl
sides_are [] (d ∷ ds) e = absurd (let clash : [] ≡ d.name ∷ map (λ (x : RecordParts). x.name) ds = e in cc)
sides_are (a ∷ as_) [] e = absurd (let clash : a.name ∷ names_of as_ ≡ [] = e in cc)
sides_are (a ∷ as_) (d ∷ ds) e =
    let both : a.name ∷ names_of as_ ≡ d.name ∷ map (λ (x : RecordParts). x.name) ds = e in
    let first : a.name ≡ d.name = cc in
    let rest : names_of as_ ≡ map (λ (x : RecordParts). x.name) ds = cc in
    ap (λ (n : List ℕ). new_side n ∷ map side_of as_) first ∙ ap (λ (ss : List Side). new_side d.name ∷ ss) (sides_are as_ ds rest)

pub fresh_is : (setup : Setup) (agents : List ConfiguredAgent) (records : List RecordParts) → AreAgentsOf agents records → master_in (fresh setup.run agents) ≡ master_of (opened_over setup records)
fresh_is setup agents records e = ap (λ (ss : List Side). record { run = new_run setup.run; sides = ss; registers = new_registers }) (sides_are agents records e)
