-- Steps within a run.
use Rattle.std.proofs.Common.{ℕ, suc, ◌+◌, not, ◌&&◌, List, [], ◌∷◌, ◌++◌, length, map, refl, ◌∙◌, bytes_eq}
use Rattle.std.specs.Prelude.{⊤}
use Rattle.std.specs.List.{AllByRecursion as Each}
use Rattle.std.proofs.lemmas.Bool.{cond_both}
use Rattle.names_core.specs.Ids.{Numbered}
use Rattle.quantity.specs.declared.rows.Row.{Row}
use Rattle.messages.specs.declared.task.Job.{Job}
use Rattle.messages.specs.declared.mail.Command.{Command}
use Rattle.messages.specs.declared.mail.Command.TheVariants.{Launch, Kill, Ack, EndFramework}
use Rattle.messages.specs.declared.mail.MasterMail.TheVariants.{Issued}
use Rattle.cluster_model.specs.Ids.{following, is_among}
use Rattle.cluster_model.specs.Sides.{Run, Side, Sending, sends_nothing, issue, books, offer_rows, Launching, may_launch, launch_one, launch_all, is_good, used_offers, without_used, may_offer, SideStep, MakeOffer, Withdraw, LaunchFrom, SendKill, SendAck, SendEnd, SendHello, SendAgain, Lose, side_step}
use Rattle.cluster_model.specs.Channels.{Channel, ChannelStep, ByMaster, Receive, ByAgent, happens, World, Happening, At, TearDown, Restart, Halt, behind, in_front, at_agent, after, after_all}
use Rattle.cluster_model.specs.Masters.{Move, AtSide, TearDownAll, RestartAll, HaltAll, MasterEffect}
use Rattle.cluster_model.specs.Clusters.{Cluster}
use Rattle.cluster_model.specs.Steps.{done, effect_of, happening_of}
use Rattle.cluster_laws.specs.Runs.{SameRun, KeepsRun, IsPlain}

pub same_run : (run : Run) → SameRun run run
same_run run = record { number = refl; serves = refl }

pub same_trans : (a b c : Run) → SameRun a b → SameRun b c → SameRun a c
same_trans a b c h k = record { number = k.number ∙ h.number; serves = k.serves ∙ h.serves }

issue_run : (x : Sending) (w : Command) → SameRun x.run (issue x w).run
issue_run x w = cond_both x.side.is_open (record { run = x.run; side = record x.side { waiting = x.side.waiting ++ w ∷ [] }; sent = x.sent ++ Issued x.side.session (suc (x.side.known + length x.side.waiting)) w ∷ [] }) x (λ y. SameRun x.run y.run) (λ e. same_run x.run) (λ e. same_run x.run)

one_run : (framework : Numbered) (ids : List Numbered) (budget : List Row) (x : Launching) (job : Job) → SameRun x.sending.run (launch_one framework ids budget x job).sending.run
one_run framework ids budget x job =
    cond_both (may_launch x.sending.run framework budget x.used job) (record { used = job.resources ++ x.used; sending = issue (books x.sending job) (Launch job ids) }) x (λ y. SameRun x.sending.run y.sending.run)
    (λ e. let i = issue_run (books x.sending job) (Launch job ids) in record { number = i.number; serves = i.serves }) (λ e. same_run x.sending.run)

all_run : (framework : Numbered) (ids : List Numbered) (budget : List Row) (jobs : List Job) (x : Launching) → SameRun x.sending.run (launch_all framework ids budget jobs x).run
all_run framework ids budget [] x = same_run x.sending.run
all_run framework ids budget (job ∷ jobs) x =
    same_trans x.sending.run (launch_one framework ids budget x job).sending.run (launch_all framework ids budget (job ∷ jobs) x).run (one_run framework ids budget x job) (all_run framework ids budget jobs (launch_one framework ids budget x job))

side_run : (run : Run) (s : Side) (step : SideStep) → SameRun run (side_step run s step).run
side_run run s (MakeOffer offer) = cond_both (may_offer run s offer) (sends_nothing (record run { next_offer = following offer.id }) (record s { offers = s.offers ++ offer ∷ [] })) (sends_nothing run s) (λ x. SameRun run x.run) (λ e. record { number = refl; serves = refl }) (λ e. same_run run)
side_run run s (Withdraw ids) = same_run run
side_run run s (LaunchFrom framework ids jobs) = cond_both (is_good s framework ids && not (is_among run.torn framework)) (launch_all framework ids (offer_rows (used_offers s framework ids)) jobs (record { used = []; sending = sends_nothing run (without_used s framework ids) })) (sends_nothing run s) (λ x. SameRun run x.run)
    (λ e. all_run framework ids (offer_rows (used_offers s framework ids)) jobs (record { used = []; sending = sends_nothing run (without_used s framework ids) })) (λ e. same_run run)
side_run run s (SendKill key) = issue_run (sends_nothing run s) (Kill key)
side_run run s (SendAck key k) = issue_run (sends_nothing run s) (Ack key k)
side_run run s (SendEnd framework) = cond_both (is_among run.torn framework) (issue (sends_nothing run s) (EndFramework framework)) (sends_nothing run s) (λ x. SameRun run x.run) (λ e. issue_run (sends_nothing run s) (EndFramework framework)) (λ e. same_run run)
side_run run s SendHello = same_run run
side_run run s SendAgain = same_run run
side_run run s Lose = same_run run

step_run : (run : Run) (c : Channel) (step : ChannelStep) → SameRun run (happens run c step).run
step_run run c (ByMaster step) = side_run run c.side step
step_run run c (Receive place) = same_run run
step_run run c (ByAgent step) = same_run run

at_run : (agent : List ℕ) (step : ChannelStep) (run : Run) (cs : List Channel) → SameRun run (at_agent agent step run cs).run
at_run agent step run [] = same_run run
at_run agent step run (c ∷ cs) =
    let rest = at_run agent step run cs in
    cond_both (bytes_eq c.side.name agent) (in_front (happens run c step) cs) (behind c (at_agent agent step run cs)) (λ w. SameRun run w.run) (λ e. step_run run c step) (λ e. rest)

abbrev pub IsWithinRun : Happening → Type 0
IsWithinRun (At agent step) = ⊤
IsWithinRun (TearDown framework) = ⊤
IsWithinRun Restart = ⊥
IsWithinRun Halt = ⊥

world_run : (w : World) (h : Happening) → IsWithinRun h → SameRun w.run (after w h).run
world_run w (At agent step) k = at_run agent step w.run w.channels
world_run w (TearDown framework) k = record { number = refl; serves = refl }
world_run w Restart k = absurd k
world_run w Halt k = absurd k

pub worlds_run : (hs : List Happening) (w : World) → Each IsWithinRun hs → SameRun w.run (after_all hs w).run
worlds_run [] w k = same_run w.run
worlds_run (h ∷ hs) w k = same_trans w.run (after w h).run (after_all hs (after w h)).run (world_run w h k.0) (worlds_run hs (after w h) k.1)

pub moves_within : (moves : List Move) → Each IsPlain moves → Each IsWithinRun (map happening_of moves)
moves_within [] h = tt
moves_within (AtSide agent step ∷ ms) h = (tt, moves_within ms h.1)
moves_within (TearDownAll framework ∷ ms) h = (tt, moves_within ms h.1)
moves_within (RestartAll ∷ ms) h = absurd h.0
moves_within (HaltAll ∷ ms) h = absurd h.0

pub keeps_run : (c : Cluster) (d : MasterEffect) → Each IsPlain d.moves → KeepsRun c d
keeps_run c d h = worlds_run (map happening_of d.moves) c.world (moves_within d.moves h)

pub receives_run : (c : Cluster) (agent : List ℕ) (place : ℕ) (d : MasterEffect) → Each IsPlain d.moves → SameRun c.world.run (done c (effect_of (At agent (Receive place) ∷ []) d)).after.world.run
receives_run c agent place d h = worlds_run (At agent (Receive place) ∷ map happening_of d.moves) c.world (tt, moves_within d.moves h)
