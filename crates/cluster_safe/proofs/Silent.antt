-- Happenings that leave no mark, and send no Launch but again.
use Rattle.std.proofs.Common.{◌≡◌, ℕ, Bool, true, false, List, [], ◌∷◌, ◌++◌, map, refl, sym, ap, ◌∙◌, subst, append_assoc, bytes_eq}
use Rattle.std.specs.Prelude.{⊤, if◌then◌else◌}
use Rattle.std.specs.List.{AllByRecursion as Each}
use Rattle.std.proofs.lemmas.Bool.{cond_both}
use Rattle.cluster_model.specs.Sides.{Run, Side, halted, restarted, SideStep, MakeOffer, Withdraw, LaunchFrom, SendKill, SendAck, SendEnd, SendHello, SendAgain, Lose}
use Rattle.cluster_model.specs.Channels.{Channel, AgentStep, ChannelStep, ByMaster, Receive, ByAgent, World, Happening, At, Restart, Halt, after}
use Rattle.cluster_model.specs.Masters.{Move, AtSide, TearDownAll, RestartAll, HaltAll}
use Rattle.cluster_model.specs.Mails.{ticks}
use Rattle.cluster_model.specs.Steps.{sent_between, sent_by, happening_of, hello_to}
use Rattle.cluster_safe.specs.Origin.{Mark, marks_at, marks_of, marks_in, marks_by, trail, jobs_of}
use Rattle.cluster_safe.specs.Launches.{launches_in}
use Rattle.cluster_safe.proofs.OriginSent.{in_append, none_sent, same_sent, NotAgain, SendsItsMarks, by_master, by_receiving, by_agent, at_sends}

abbrev pub Unmarked : Happening → Type 0
Unmarked h = (w : World) → marks_by w h ≡ []

-- it leaves no mark, and sends no Launch
abbrev pub Silent : Happening → Type 0
Silent h = (w : World) → (marks_by w h ≡ []) × (launches_in (sent_between w.channels (after w h).channels) ≡ [])

pub unmarked : (hs : List Happening) → Each Silent hs → Each Unmarked hs
unmarked [] h = tt
unmarked (x ∷ hs) h = ((λ w. (h.0 w).0), unmarked hs h.1)

pub still_silent : (w : World) → launches_in (sent_between w.channels w.channels) ≡ []
still_silent w = same_sent w.channels

at_silent : (agent : List ℕ) (step : ChannelStep) (w : World) → marks_in agent step w.run w.channels ≡ [] → ((c : Channel) → SendsItsMarks w.run step c) → (marks_by w (At agent step) ≡ []) × (launches_in (sent_between w.channels (after w (At agent step)).channels) ≡ [])
at_silent agent step w none f = (none, at_sends agent step w.run w.channels f ∙ ap jobs_of none)

nothing_in : (agent : List ℕ) (step : ChannelStep) (run : Run) (cs : List Channel) → ((c : Channel) → marks_of run c step ≡ []) → marks_in agent step run cs ≡ []
nothing_in agent step run [] f = refl
nothing_in agent step run (c ∷ cs) f = cond_both (bytes_eq c.side.name agent) (marks_of run c step) (marks_in agent step run cs) (λ ms. ms ≡ []) (λ e. f c) (λ e. nothing_in agent step run cs f)

pub receives_silent : (agent : List ℕ) (place : ℕ) → Silent (At agent (Receive place))
receives_silent agent place w = at_silent agent (Receive place) w (nothing_in agent (Receive place) w.run w.channels (λ c. refl)) (by_receiving w.run place)

pub agent_silent : (agent : List ℕ) (step : AgentStep) → Silent (At agent (ByAgent step))
agent_silent agent step w = at_silent agent (ByAgent step) w (nothing_in agent (ByAgent step) w.run w.channels (λ c. refl)) (by_agent w.run step)

-- neither an offer nor a launch, and nothing sent again
abbrev pub QuietStep : SideStep → Type 0
QuietStep (MakeOffer offer) = ⊥
QuietStep (LaunchFrom framework ids jobs) = ⊥
QuietStep SendAgain = ⊥
QuietStep step = ⊤

not_again : (step : SideStep) → QuietStep step → NotAgain step
not_again (MakeOffer offer) q = tt
not_again (Withdraw ids) q = tt
not_again (LaunchFrom framework ids jobs) q = tt
not_again (SendKill key) q = tt
not_again (SendAck key k) q = tt
not_again (SendEnd framework) q = tt
not_again SendHello q = tt
not_again SendAgain q = q
not_again Lose q = tt

abbrev pub QuietMove : Move → Type 0
QuietMove (AtSide agent step) = QuietStep step
QuietMove m = ⊤

quiet_marks : (run : Run) (s : Side) (step : SideStep) → QuietStep step → marks_at run s step ≡ []
quiet_marks run s (MakeOffer offer) q = absurd q
quiet_marks run s (Withdraw ids) q = refl
quiet_marks run s (LaunchFrom framework ids jobs) q = absurd q
quiet_marks run s (SendKill key) q = refl
quiet_marks run s (SendAck key k) q = refl
quiet_marks run s (SendEnd framework) q = refl
quiet_marks run s SendHello q = refl
quiet_marks run s SendAgain q = absurd q
quiet_marks run s Lose q = refl

pub quiet_silent : (agent : List ℕ) (step : SideStep) → QuietStep step → Silent (At agent (ByMaster step))
quiet_silent agent step q w = at_silent agent (ByMaster step) w (nothing_in agent (ByMaster step) w.run w.channels (λ c. quiet_marks w.run c.side step q)) (λ c. by_master w.run step c (not_again step q))

-- what is sent again leaves no mark
again_unmarked : (agent : List ℕ) → Unmarked (At agent (ByMaster SendAgain))
again_unmarked agent w = nothing_in agent (ByMaster SendAgain) w.run w.channels (λ c. refl)

pub ticks_unmarked : (ss : List Side) → Each Unmarked (map happening_of (map ticks ss))
ticks_unmarked [] = tt
ticks_unmarked (s ∷ ss) = (by s.is_open, ticks_unmarked ss)
  where
    by : (b : Bool) → Unmarked (At s.name (ByMaster (if b then SendAgain else SendHello)))
    by true = again_unmarked s.name
    by false = λ w. (quiet_silent s.name SendHello tt w).0

pub restart_silent : Silent Restart
restart_silent w = (refl, none_sent restarted w.channels)

pub halt_silent : Silent Halt
halt_silent w = (refl, none_sent halted w.channels)

pub moves_silent : (ms : List Move) → Each QuietMove ms → Each Silent (map happening_of ms)
moves_silent [] h = tt
moves_silent (AtSide agent step ∷ ms) h = (quiet_silent agent step h.0, moves_silent ms h.1)
moves_silent (TearDownAll framework ∷ ms) h = ((λ w. (refl, still_silent w)), moves_silent ms h.1)
moves_silent (RestartAll ∷ ms) h = (restart_silent, moves_silent ms h.1)
moves_silent (HaltAll ∷ ms) h = (halt_silent, moves_silent ms h.1)

pub hellos_silent : (cs : List Channel) → Each Silent (map hello_to cs)
hellos_silent [] = tt
hellos_silent (c ∷ cs) = (quiet_silent c.side.name SendHello tt, hellos_silent cs)

pub trail_silent : (hs : List Happening) → Each Unmarked hs → (w : World) (marks : List Mark) → trail hs w marks ≡ marks
trail_silent [] h w marks = refl
trail_silent (x ∷ hs) h w marks = subst (λ ms. trail hs (after w x) (ms ++ marks) ≡ marks) (sym (h.0 w)) (trail_silent hs h.1 (after w x) marks)

pub sent_silent : (hs : List Happening) → Each Silent hs → (w : World) → launches_in (sent_by hs w) ≡ []
sent_silent [] h w = refl
sent_silent (x ∷ hs) h w = in_append (sent_between w.channels (after w x).channels) (sent_by hs (after w x)) ∙ (ap (λ js. js ++ launches_in (sent_by hs (after w x))) (h.0 w).1 ∙ sent_silent hs h.1 (after w x))

-- a trail that goes on behind other marks
pub trail_onto : (hs : List Happening) (w : World) (new old : List Mark) → trail hs w (new ++ old) ≡ trail hs w new ++ old
trail_onto [] w new old = refl
trail_onto (h ∷ hs) w new old = ap (trail hs (after w h)) (sym (append_assoc (marks_by w h) new old)) ∙ trail_onto hs (after w h) (marks_by w h ++ new) old
