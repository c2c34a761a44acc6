-- Origin: which accepted offers each task came from.
use Rattle.std.specs.Prelude.{◌≡◌, ◌≢◌, ◌⊎◌, ℕ, true, false, not, ◌&&◌, if◌then◌else◌, List, [], ◌∷◌, ◌++◌, map, bytes_eq, ⊤}
use Rattle.std.specs.List.{AllByRecursion as Each}
use Rattle.names_core.specs.Ids.{Numbered}
use Rattle.quantity.specs.declared.rows.Row.{Row}
use Rattle.messages.specs.declared.task.Job.{Job}
use Rattle.messages.specs.declared.task.Offer.{Offer}
use Rattle.messages.specs.declared.record.RecordParts.{RecordParts}
use Rattle.cluster_model.specs.Ids.{is_among, is_empty}
use Rattle.cluster_model.specs.Sides.{Run, Side, SideStep, MakeOffer, LaunchFrom, Launching, launch_one, may_launch, may_offer, is_good, used_offers, without_used, sends_nothing, offer_rows, job_rows}
use Rattle.cluster_model.specs.Channels.{Channel, ChannelStep, ByMaster, World, Happening, At, after, open_world}
use Rattle.cluster_model.specs.Events.{MadeOffer}
use Rattle.cluster_model.specs.Openings.{KeysOnce, recorded_jobs}
use Rattle.cluster_model.specs.Steps.{Setup, Marked, history}
use Rattle.cluster_safe.specs.Facts.{AtMost}

-- an ACCEPT of good offers: the offers that it used, and the jobs that it launched
pub record Use : Type 0 where
  pub agent : List ℕ
  pub framework : Numbered
  pub ids : List Numbered  -- the offers that it named
  pub offers : List Offer
  pub jobs : List Job

-- what the master does that Origin speaks of
pub data Mark : Type 0 where
  Made : (offer : MadeOffer) → Mark
  Used : (by : Use) → Mark

-- the jobs that are launched
abbrev pub launched : Numbered → List Numbered → List Row → List Job → Launching → List Job
launched framework ids budget [] x = []
launched framework ids budget (job ∷ jobs) x =
    let rest = launched framework ids budget jobs (launch_one framework ids budget x job) in
    if may_launch x.sending.run framework budget x.used job then job ∷ rest else rest

abbrev pub use_of : Run → Side → Numbered → List Numbered → List Job → Use
use_of run s framework ids jobs = record {
  agent = s.name;
  framework = framework;
  ids = ids;
  offers = used_offers s framework ids;
  jobs =
      launched framework ids (offer_rows (used_offers s framework ids)) jobs
      (record { used = []; sending = sends_nothing run (without_used s framework ids) });
}

-- the marks of a step, of a happening, and of a list of happenings, the newest first

abbrev pub marks_at : Run → Side → SideStep → List Mark
marks_at run s (MakeOffer offer) =
    if may_offer run s offer then Made (record { agent = s.name; offer = offer }) ∷ [] else []
marks_at run s (LaunchFrom framework ids jobs) =
    if is_good s framework ids && not (is_among run.torn framework)
    then Used (use_of run s framework ids jobs) ∷ [] else []
marks_at run s step = []

abbrev pub marks_of : Run → Channel → ChannelStep → List Mark
marks_of run c (ByMaster step) = marks_at run c.side step
marks_of run c step = []

abbrev pub marks_in : List ℕ → ChannelStep → Run → List Channel → List Mark
marks_in agent step run [] = []
marks_in agent step run (c ∷ cs) =
    if bytes_eq c.side.name agent then marks_of run c step else marks_in agent step run cs

abbrev pub marks_by : World → Happening → List Mark
marks_by w (At agent step) = marks_in agent step w.run w.channels
marks_by w h = []

abbrev pub trail : List Happening → World → List Mark → List Mark
trail [] w marks = marks
trail (h ∷ hs) w marks = trail hs (after w h) (marks_by w h ++ marks)

-- the trail of a list of steps, from an opening
abbrev pub trail_after : Setup → List RecordParts → List Marked → List Mark
trail_after setup records steps =
    trail (history setup records steps).happenings (open_world setup.run records) []

-- what is in a trail

-- an offer was made on an agent
abbrev pub WasMade : List ℕ → Offer → List Mark → Type 0
WasMade agent o [] = ⊥
WasMade agent o (Made m ∷ older) = ((m.agent ≡ agent) × (m.offer ≡ o)) ⊎ WasMade agent o older
WasMade agent o (Used u ∷ older) = WasMade agent o older

-- no offer of this id was made
abbrev pub NotMade : Numbered → List Mark → Type 0
NotMade id [] = ⊤
NotMade id (Made m ∷ older) = (m.offer.id ≢ id) × NotMade id older
NotMade id (Used u ∷ older) = NotMade id older

-- no offer of this id was used
abbrev pub NotUsed : Numbered → List Mark → Type 0
NotUsed id [] = ⊤
NotUsed id (Made m ∷ older) = NotUsed id older
NotUsed id (Used u ∷ older) = Each (λ o. o.id ≢ id) u.offers × NotUsed id older

abbrev pub IsOneOf : Job → List Job → Type 0
IsOneOf j [] = ⊥
IsOneOf j (i ∷ js) = (i ≡ j) ⊎ IsOneOf j js

-- all jobs that were ever launched
abbrev pub jobs_of : List Mark → List Job
jobs_of [] = []
jobs_of (Made m ∷ older) = jobs_of older
jobs_of (Used u ∷ older) = u.jobs ++ jobs_of older

-- those launched on an agent
abbrev pub jobs_on : List ℕ → List Mark → List Job
jobs_on agent [] = []
jobs_on agent (Made m ∷ older) = jobs_on agent older
jobs_on agent (Used u ∷ older) =
    if bytes_eq u.agent agent then u.jobs ++ jobs_on agent older else jobs_on agent older

-- the tasks that were in an agent's record at the opening
abbrev pub recorded_on : List ℕ → List RecordParts → List Job
recorded_on agent [] = []
recorded_on agent (d ∷ ds) =
    if bytes_eq d.name agent then map (λ t. t.job) d.tasks ++ recorded_on agent ds
    else recorded_on agent ds

-- some offers are used, each named one, all of the framework;
-- and what is launched is of the framework and at most their sum
pub record IsCovered (u : Use) : Type 0 where
  pub some : is_empty u.offers ≡ false
  pub named : Each (λ id. is_among (map (λ o. o.id) u.offers) id ≡ true) u.ids
  pub own_offers : Each (λ o. o.framework ≡ u.framework) u.offers
  pub own_jobs : Each (λ j. j.framework ≡ u.framework) u.jobs
  pub sum : AtMost (job_rows u.jobs) (offer_rows u.offers)

-- each use is covered, its offers were made before on its agent, and no other use before used them;
-- and no offer's id was made twice
abbrev pub IsTrail : List Mark → Type 0
IsTrail [] = ⊤
IsTrail (Made m ∷ older) = NotMade m.offer.id older × IsTrail older
IsTrail (Used u ∷ older) =
    IsCovered u × Each (λ o. WasMade u.agent o older × NotUsed o.id older) u.offers × IsTrail older

-- a job that was launched on an agent, or was in its record at the opening
abbrev pub From : List RecordParts → List ℕ → List Mark → Job → Type 0
From records agent marks j = IsOneOf j (jobs_on agent marks) ⊎ IsOneOf j (recorded_on agent records)

-- each task of a record was launched on its agent by exactly one use, or was there at the opening
pub record HasOrigin (records : List RecordParts) (w : World) (marks : List Mark) : Type 0 where
  pub tasks : Each (λ c. Each (λ t. From records c.side.name marks t.job) c.agent.durable.tasks)
      w.channels
  pub once : KeysOnce (jobs_of marks ++ recorded_jobs records)
  pub uses : IsTrail marks
