-- From an item to its post, and from there to the mail in its channel.
use Rattle.std.proofs.Common.{◌≡◌, ℕ, List, Option, Some, None, refl, sym, ap, ◌∙◌, subst, slice_get}
use Rattle.std.specs.Prelude.{option_map}
use Rattle.std.proofs.lemmas.Option.{slice_get-map}
use Rattle.names_core.specs.Ids.{Numbered}
use Rattle.messages.specs.declared.call.Call.{Call}
use Rattle.messages.specs.declared.mail.MasterMail.{MasterMail}
use Rattle.messages.specs.declared.mail.AgentMail.{AgentMail}
use Rattle.messages.specs.declared.mail.ToAgent.{ToAgent}
use Rattle.messages.specs.declared.mail.ToMaster.{ToMaster}
use Rattle.cluster_model.specs.Channels.{Channel}
use Rattle.cluster_model.specs.Clusters.{Cluster, Post, Called, Down, Up}
use Rattle.cluster_laws.specs.Items.{channel_at, to_agent, to_master, down_item, up_item, item_of, Item, Stand, StandIn}
use Rattle.cluster_laws.specs.declared.item.Item.TheVariants as items
use Rattle.cluster_laws.specs.Premises.{IsDown, IsUp}

-- what a post is that stands for a call, for a mail to an agent, for a mail of an agent

abbrev pub DownAt : List Channel → Post → ToAgent → Type 0
DownAt cs p to = (place : ℕ) × (x : Channel) × (p ≡ Down to.agent place) × (channel_at to.agent cs ≡ Some x) × (slice_get x.to_agent place ≡ Some to.mail)

abbrev pub UpAt : List Channel → Post → ToMaster → Type 0
UpAt cs p to = (place : ℕ) × (x : Channel) × (p ≡ Up to.agent place) × (channel_at to.agent cs ≡ Some x) × (slice_get x.to_master place ≡ Some to.mail)

-- what an item found at a place of a channel is
abbrev Downs : List Channel → List ℕ → ℕ → Item → Type 0
Downs cs agent place i = (x : Channel) × (mail : MasterMail) × (channel_at agent cs ≡ Some x) × (slice_get x.to_agent place ≡ Some mail) × (to_agent agent mail ≡ i)

abbrev Ups : List Channel → List ℕ → ℕ → Item → Type 0
Ups cs agent place i = (x : Channel) × (mail : AgentMail) × (channel_at agent cs ≡ Some x) × (slice_get x.to_master place ≡ Some mail) × (to_master agent mail ≡ i)

downs : (cs : List Channel) (agent : List ℕ) (place : ℕ) (i : Item) → down_item agent place (channel_at agent cs) ≡ Some i → Downs cs agent place i
downs cs agent place i e = by (channel_at agent cs) refl e
  where
    at : (x : Channel) (m : Option MasterMail) → slice_get x.to_agent place ≡ m → channel_at agent cs ≡ Some x → option_map (to_agent agent) m ≡ Some i → Downs cs agent place i
    at x None s f k = absurd cc
    at x (Some mail) s f k = (x, mail, f, s, cc)

    by : (o : Option Channel) → channel_at agent cs ≡ o → down_item agent place o ≡ Some i → Downs cs agent place i
    by None f k = absurd cc
    by (Some x) f k = at x (slice_get x.to_agent place) refl f k

ups : (cs : List Channel) (agent : List ℕ) (place : ℕ) (i : Item) → up_item agent place (channel_at agent cs) ≡ Some i → Ups cs agent place i
ups cs agent place i e = by (channel_at agent cs) refl e
  where
    at : (x : Channel) (m : Option AgentMail) → slice_get x.to_master place ≡ m → channel_at agent cs ≡ Some x → option_map (to_master agent) m ≡ Some i → Ups cs agent place i
    at x None s f k = absurd cc
    at x (Some mail) s f k = (x, mail, f, s, cc)

    by : (o : Option Channel) → channel_at agent cs ≡ o → up_item agent place o ≡ Some i → Ups cs agent place i
    by None f k = absurd cc
    by (Some x) f k = at x (slice_get x.to_master place) refl f k

pub down_is : (cs : List Channel) (p : Post) (to : ToAgent) → item_of cs p ≡ Some (items.ToAgent to) → DownAt cs p to
down_is cs (Called stream call) to e = absurd cc
down_is cs (Up agent place) to e = let u = ups cs agent place (items.ToAgent to) e in absurd (let differ : to_master agent u.1 ≡ items.ToAgent to = u.4 in cc)
down_is cs (Down agent place) to e =
    let d = downs cs agent place (items.ToAgent to) e in
    let is : items.ToAgent (record { agent = agent; mail = d.1 }) ≡ items.ToAgent to = d.4 in
    let same : ◌≡◌ {A = ToAgent} (record { agent = agent; mail = d.1 }) to = cc in
    subst (DownAt cs (Down agent place)) same (place, d.0, refl, d.2, d.3)

pub up_is : (cs : List Channel) (p : Post) (to : ToMaster) → item_of cs p ≡ Some (items.ToMaster to) → UpAt cs p to
up_is cs (Called stream call) to e = absurd cc
up_is cs (Down agent place) to e = let u = downs cs agent place (items.ToMaster to) e in absurd (let differ : to_agent agent u.1 ≡ items.ToMaster to = u.4 in cc)
up_is cs (Up agent place) to e =
    let d = ups cs agent place (items.ToMaster to) e in
    let is : items.ToMaster (record { agent = agent; mail = d.1 }) ≡ items.ToMaster to = d.4 in
    let same : ◌≡◌ {A = ToMaster} (record { agent = agent; mail = d.1 }) to = cc in
    subst (UpAt cs (Up agent place)) same (place, d.0, refl, d.2, d.3)

call_is : (cs : List Channel) (p : Post) (stream : Option Numbered) (call : Call) → item_of cs p ≡ Some (items.Call stream call) → p ≡ Called stream call
call_is cs (Called s c) stream call e = cc
call_is cs (Down agent place) stream call e = let u = downs cs agent place (items.Call stream call) e in absurd (let differ : to_agent agent u.1 ≡ items.Call stream call = u.4 in cc)
call_is cs (Up agent place) stream call e = let u = ups cs agent place (items.Call stream call) e in absurd (let differ : to_master agent u.1 ≡ items.Call stream call = u.4 in cc)

-- the post at an item's place

abbrev pub PostFor : List Channel → List Post → ℕ → Item → Type 0
PostFor cs posts n i = (p : Post) × (slice_get posts n ≡ Some p) × (item_of cs p ≡ Some i)

both_at : (cs : List Channel) (posts : List Post) (sent : List Item) → Stand cs posts sent → (n : ℕ) → option_map (item_of cs) (slice_get posts n) ≡ option_map Some (slice_get sent n)
both_at cs posts sent h n = sym (slice_get-map (item_of cs) posts n) ∙ (ap (λ xs. slice_get xs n) h ∙ slice_get-map Some sent n)

pub post_for : (cs : List Channel) (posts : List Post) (sent : List Item) → Stand cs posts sent → (n : ℕ) (i : Item) → slice_get sent n ≡ Some i → PostFor cs posts n i
post_for cs posts sent h n i e = by (slice_get posts n) refl (both_at cs posts sent h n ∙ ap (option_map Some) e)
  where
    by : (p : Option Post) → slice_get posts n ≡ p → option_map (item_of cs) p ≡ Some (Some i) → PostFor cs posts n i
    by None f k = absurd cc
    by (Some p) f k = (p, f, cc)

pub no_post : (c : Cluster) (sent : List Item) (n : ℕ) → StandIn c sent → slice_get sent n ≡ None → slice_get c.posts n ≡ None
no_post c sent n h e = by (slice_get c.posts n) refl (both_at c.world.channels c.posts sent h n ∙ ap (option_map Some) e)
  where
    by : (p : Option Post) → slice_get c.posts n ≡ p → option_map (item_of c.world.channels) p ≡ None → slice_get c.posts n ≡ None
    by None f k = f
    by (Some p) f k = absurd cc

pub call_post : (c : Cluster) (sent : List Item) (n : ℕ) (stream : Option Numbered) (call : Call) → StandIn c sent → slice_get sent n ≡ Some (items.Call stream call) → slice_get c.posts n ≡ Some (Called stream call)
call_post c sent n stream call h e =
    let p = post_for c.world.channels c.posts sent h n (items.Call stream call) e in
    p.1 ∙ ap Some (call_is c.world.channels p.0 stream call p.2)

pub down_post : (c : Cluster) (sent : List Item) (n : ℕ) (to : ToAgent) → StandIn c sent → slice_get sent n ≡ Some (items.ToAgent to) → IsDown c n to
down_post c sent n to h e =
    let p = post_for c.world.channels c.posts sent h n (items.ToAgent to) e in
    let d = down_is c.world.channels p.0 to p.2 in
    (d.0, d.1, p.1 ∙ ap Some d.2, d.3, d.4)

pub up_post : (c : Cluster) (sent : List Item) (n : ℕ) (to : ToMaster) → StandIn c sent → slice_get sent n ≡ Some (items.ToMaster to) → IsUp c n to
up_post c sent n to h e =
    let p = post_for c.world.channels c.posts sent h n (items.ToMaster to) e in
    let d = up_is c.world.channels p.0 to p.2 in
    (d.0, d.1, p.1 ∙ ap Some d.2, d.3, d.4)
