-- A side keeps its name.
use Rattle.std.proofs.Common.{◌≡◌, ◌-◌, suc, ◌+◌, not, ◌&&◌, List, [], ◌∷◌, ◌++◌, length, map, take, drop, refl, ◌∙◌}
use Rattle.std.specs.Prelude.{◌==◌}
use Rattle.std.proofs.lemmas.Bool.{cond_both}
use Rattle.names_core.specs.Ids.{Numbered}
use Rattle.quantity.specs.declared.rows.Row.{Row}
use Rattle.messages.specs.declared.task.Job.{Job}
use Rattle.messages.specs.declared.mail.Command.{Command}
use Rattle.messages.specs.declared.mail.Command.TheVariants.{Launch, Kill, Ack, EndFramework}
use Rattle.messages.specs.declared.mail.MasterMail.TheVariants.{Issued}
use Rattle.messages.specs.declared.mail.AgentMail.{AgentMail}
use Rattle.messages.specs.declared.mail.AgentMail.TheVariants.{Report, Applied, Update}
use Rattle.cluster_model.specs.Ids.{following, is_among}
use Rattle.cluster_model.specs.Sides.{Run, Side, Sending, sends_nothing, issue, books, offer_rows, Launching, may_launch, launch_one, launch_all, is_good, used_offers, without_used, may_offer, received_update, forget_all, opens, opened, counts, received, shut, SideStep, MakeOffer, Withdraw, LaunchFrom, SendKill, SendAck, SendEnd, SendHello, SendAgain, Lose, side_step}

abbrev pub SameName : Side → Side → Type 0
SameName s t = t.name ≡ s.name

issue_name : (x : Sending) (w : Command) → SameName x.side (issue x w).side
issue_name x w = cond_both x.side.is_open (record { run = x.run; side = record x.side { waiting = x.side.waiting ++ w ∷ [] }; sent = x.sent ++ Issued x.side.session (suc (x.side.known + length x.side.waiting)) w ∷ [] }) x (λ y. SameName x.side y.side) (λ e. refl) (λ e. refl)

one_name : (framework : Numbered) (ids : List Numbered) (budget : List Row) (x : Launching) (job : Job) → SameName x.sending.side (launch_one framework ids budget x job).sending.side
one_name framework ids budget x job =
    cond_both (may_launch x.sending.run framework budget x.used job) (record { used = job.resources ++ x.used; sending = issue (books x.sending job) (Launch job ids) }) x (λ y. SameName x.sending.side y.sending.side)
    (λ e. issue_name (books x.sending job) (Launch job ids)) (λ e. refl)

all_name : (framework : Numbered) (ids : List Numbered) (budget : List Row) (jobs : List Job) (x : Launching) → SameName x.sending.side (launch_all framework ids budget jobs x).side
all_name framework ids budget [] x = refl
all_name framework ids budget (job ∷ jobs) x =
    all_name framework ids budget jobs (launch_one framework ids budget x job) ∙ one_name framework ids budget x job

pub side_name : (run : Run) (s : Side) (step : SideStep) → SameName s (side_step run s step).side
side_name run s (MakeOffer offer) = cond_both (may_offer run s offer) (sends_nothing (record run { next_offer = following offer.id }) (record s { offers = s.offers ++ offer ∷ [] })) (sends_nothing run s) (λ x. SameName s x.side) (λ e. refl) (λ e. refl)
side_name run s (Withdraw ids) = refl
side_name run s (LaunchFrom framework ids jobs) = cond_both (is_good s framework ids && not (is_among run.torn framework)) (launch_all framework ids (offer_rows (used_offers s framework ids)) jobs (record { used = []; sending = sends_nothing run (without_used s framework ids) })) (sends_nothing run s) (λ x. SameName s x.side)
    (λ e. all_name framework ids (offer_rows (used_offers s framework ids)) jobs (record { used = []; sending = sends_nothing run (without_used s framework ids) })) (λ e. refl)
side_name run s (SendKill key) = issue_name (sends_nothing run s) (Kill key)
side_name run s (SendAck key k) = issue_name (sends_nothing run s) (Ack key k)
side_name run s (SendEnd framework) = cond_both (is_among run.torn framework) (issue (sends_nothing run s) (EndFramework framework)) (sends_nothing run s) (λ x. SameName s x.side) (λ e. issue_name (sends_nothing run s) (EndFramework framework)) (λ e. refl)
side_name run s SendHello = refl
side_name run s SendAgain = refl
side_name run s Lose = cond_both s.is_open (shut s s.session) s (SameName s) (λ e. refl) (λ e. refl)

pub received_name : (run : Run) (s : Side) (mail : AgentMail) → SameName s (received run s mail)
received_name run s (Report session number tasks total) = cond_both (opens run s session number) (opened s session tasks total) s (SameName s) (λ e. refl) (λ e. refl)
received_name run s (Applied session count) = cond_both (counts s session count) (record s { booked = forget_all (take (count - s.known) s.waiting) s.booked; waiting = drop (count - s.known) s.waiting; known = count }) s (SameName s) (λ e. refl) (λ e. refl)
received_name run s (Update session key k state ended) = cond_both (s.is_open && session == s.session) (record s { booked = map (received_update key k state ended) s.booked }) s (SameName s) (λ e. refl) (λ e. refl)
