-- Which changes of an account or of a session are which changes of a side.
use Rattle.std.proofs.Common.{◌≡◌, ℕ, Bool, true, false, List, ◌++◌, ◌∷◌, [], Option, Some, None, Result, Ok, Err, cond, map, refl, sym, ap, ◌∙◌, arith}
use Rattle.std.specs.Prelude.{◌==◌, nat_lt, nat_le}
use Rattle.std.proofs.lemmas.Bool.Decides.{nat_tests}
use Rattle.quantity.specs.declared.rows.Row.{Row}
use Rattle.messages.specs.declared.mail.Command.{Command}
use Rattle.messages.specs.declared.task.Booked.{Booked}
use Rattle.messages.specs.declared.refusal.MasterRefusal.{MasterRefusal}
use Rattle.messages.specs.declared.refusal.MasterRefusal.TheVariants.{OldSession, Closed}
use Rattle.names_core.specs.Ids.{Numbered}
use Rattle.names_core.specs.declared.state.TaskState.{TaskState}
use Rattle.messages.specs.declared.mail.AgentMail.TheVariants.{Applied, Update}
use Rattle.cluster_model.specs.Sides.{Run as ModelRun, Side, counts, received, last_session, lost}
use Rattle.master_agents.specs.Looks.{is_session}
use Rattle.cluster_model.specs.Mails.{judged_session}
use Rattle.roster.specs.Sessions.{after_applied, after_report, newly, answered, judged_report, report_opens, reported, with_command}
use Rattle.offer_tables.specs.Accounts.{Account}
use Rattle.offer_tables.specs.Accounts as accounts
use Rattle.offer_tables.specs.Books.{entered, entered_at, is_named_so}
use Rattle.offer_tables.specs.declared.fault.BookFault.{BookFault}
use Rattle.offer_tables.specs.declared.fault.BookFault.TheVariants.{Twice}
use Rattle.master_agents.specs.Changes.{account_of, reporting, side_of}
use Rattle.master_agents.specs.declared.config.ConfiguredAgent.{ConfiguredAgent}
use Rattle.std.specs.List.{AllByRecursion, find}
use Rattle.master_agents.specs.Configs.{are_ordered, names_of}
use Rattle.master_agents.specs.Joined.{AreApart, AreOfOne, Fit, IsIn, join, joined, side_names}
use Rattle.master_agents.proofs.Joining.{KeepsAccount, KeepsSide}

pub command_joins : (command : Command) (s : Side) (a : Account) → join (with_command command s) a ≡ with_command command (join s a)
command_joins command s a = by s.is_open refl
  where
    by : (b : Bool) → s.is_open ≡ b → join (with_command command s) a ≡ with_command command (join s a)
    by true h = rw h refl
    by false h = rw h refl

pub command_keeps : (command : Command) → KeepsSide (with_command command)
command_keeps command = record { name = λ s. name s s.is_open refl }
  where
    name : (s : Side) (b : Bool) → s.is_open ≡ b → (with_command command s).name ≡ s.name
    name s true h = rw h refl
    name s false h = rw h refl

-- sessions

pub lost_joins : (s : Side) (a : Account) → s.is_open ≡ true → join (lost s) (accounts.reopened [] [] a) ≡ lost (join s a)
lost_joins s a h = rw h refl

pub lost_stays : (s : Side) (a : Account) → s.is_open ≡ false → join s a ≡ lost (join s a)
lost_stays s a h = rw h refl

pub lost_keeps : KeepsSide lost
lost_keeps = record { name = λ s. name s s.is_open refl }
  where
    name : (s : Side) (b : Bool) → s.is_open ≡ b → (lost s).name ≡ s.name
    name s true h = rw h refl
    name s false h = rw h refl

pub report_keeps : (run session number : ℕ) → KeepsSide (after_report run session number)
report_keeps run session number = record { name = λ s. name s (report_opens run s session number) refl }
  where
    name : (s : Side) (b : Bool) → report_opens run s session number ≡ b → (after_report run session number s).name ≡ s.name
    name s true h = rw h refl
    name s false h = rw h refl

-- a Report that is refused opens nothing

below_open : (s : Side) (session : ℕ) (refusal : MasterRefusal) (c : Bool) → nat_lt session s.session ≡ c → s.is_open ≡ true → cond c (Some OldSession) None ≡ Some refusal → nat_lt (last_session s) session ≡ false
below_open s session refusal true l h m = rw h (grind (arith, nat_tests))
below_open s session refusal false l h m = absurd cc

at_closed : (s : Side) (session : ℕ) (refusal : MasterRefusal) (c : Bool) → nat_le session s.closed ≡ c → s.is_open ≡ false → cond c (Some Closed) None ≡ Some refusal → nat_lt (last_session s) session ≡ false
at_closed s session refusal true l h m = rw h (grind (arith, nat_tests))
at_closed s session refusal false l h m = absurd cc

refused_opens_not : (s : Side) (session : ℕ) (refusal : MasterRefusal) (b : Bool) → s.is_open ≡ b → judged_session s session None ≡ Some refusal → nat_lt (last_session s) session ≡ false
refused_opens_not s session refusal true h e = below_open s session refusal (nat_lt session s.session) refl h (rw h at e)
refused_opens_not s session refusal false h e = at_closed s session refusal (nat_le session s.closed) refl h (rw h at e)

-- what a Report is answered tells whether it opens
opens_by : (run : ℕ) (s : Side) (session number : ℕ) (judged : Option MasterRefusal) (b : Bool) → judged_report run s session number ≡ judged → answered judged (report_opens run s session number) ≡ Ok b → report_opens run s session number ≡ b
opens_by run s session number None b j e = cc
opens_by run s session number (Some refusal) b j e = absurd cc

pub opens_if : (run : ℕ) (s : Side) (session number : ℕ) (b : Bool) → reported run s session number ≡ Ok b → report_opens run s session number ≡ b
opens_if run s session number b e = opens_by run s session number (judged_report run s session number) b refl e

same_run_opens_not : (run : ℕ) (s : Side) (session number : ℕ) (refusal : MasterRefusal) (b : Bool) → (number == run) ≡ b → judged_report run s session number ≡ Some refusal → report_opens run s session number ≡ false
same_run_opens_not run s session number refusal true h e = rw h (refused_opens_not s session refusal s.is_open refl (rw h at e))
same_run_opens_not run s session number refusal false h e = rw h refl

closed_by : (run : ℕ) (s : Side) (session number : ℕ) (refusal : MasterRefusal) (judged : Option MasterRefusal) → judged_report run s session number ≡ judged → ◌≡◌ {A = Result Bool MasterRefusal} (answered judged (report_opens run s session number)) (Err refusal) → report_opens run s session number ≡ false
closed_by run s session number refusal None j e = absurd cc
closed_by run s session number refusal (Some other) j e = same_run_opens_not run s session number other (number == run) refl j

closed_if : (run : ℕ) (s : Side) (session number : ℕ) (refusal : MasterRefusal) → reported run s session number ≡ Err refusal → report_opens run s session number ≡ false
closed_if run s session number refusal e = closed_by run s session number refusal (judged_report run s session number) refl e

-- a Report that opens, and one that doesn't

pub report_opens_joins : (run session number : ℕ) (tasks : List Booked) (total : List Row) (s : Side) (a : Account) → reported run s session number ≡ Ok true → join (after_report run session number s) (accounts.reopened tasks total a) ≡ reporting run session number tasks total (join s a)
report_opens_joins run session number tasks total s a e = let opens = opens_if run s session number true e in rw opens refl

stays_closed : (run session number : ℕ) (tasks : List Booked) (total : List Row) (s : Side) (a : Account) → report_opens run s session number ≡ false → join (after_report run session number s) a ≡ reporting run session number tasks total (join s a)
stays_closed run session number tasks total s a e = rw e refl

pub report_again_joins : (run session number : ℕ) (tasks : List Booked) (total : List Row) (s : Side) (a : Account) → reported run s session number ≡ Ok false → join (after_report run session number s) a ≡ reporting run session number tasks total (join s a)
report_again_joins run session number tasks total s a e = stays_closed run session number tasks total s a (opens_if run s session number false e)

pub report_refused_joins : (run session number : ℕ) (tasks : List Booked) (total : List Row) (refusal : MasterRefusal) (s : Side) (a : Account) → reported run s session number ≡ Err refusal → join (after_report run session number s) a ≡ reporting run session number tasks total (join s a)
report_refused_joins run session number tasks total refusal s a e = stays_closed run session number tasks total s a (closed_if run s session number refusal e)

pub reopened_keeps : (tasks : List Booked) (total : List Row) → KeepsAccount (accounts.reopened tasks total)
reopened_keeps tasks total = record { name = λ a. refl; present = λ a. refl }

-- agents that just entered

pub entered_joins : (agents : List ConfiguredAgent) → joined (map side_of agents) (map account_of agents) ≡ map side_of agents
entered_joins [] = refl
entered_joins (a ∷ agents) = ap (λ ss. side_of a ∷ ss) (entered_joins agents)

entered_are_one : (agents : List ConfiguredAgent) → AreOfOne (map side_of agents) (map account_of agents)
entered_are_one [] = tt
entered_are_one (a ∷ agents) = (refl, entered_are_one agents)

entered_names : (agents : List ConfiguredAgent) → side_names (map side_of agents) ≡ names_of agents
entered_names [] = refl
entered_names (a ∷ agents) = ap (λ ns. a.name ∷ ns) (entered_names agents)

entered_apart : (agents : List ConfiguredAgent) → AllByRecursion AreApart (map account_of agents)
entered_apart [] = tt
entered_apart (a ∷ agents) = (refl, entered_apart agents)

pub entered_present : (agents : List ConfiguredAgent) → AllByRecursion IsIn (map account_of agents)
entered_present [] = tt
entered_present (a ∷ agents) = (refl, entered_present agents)

pub entered_fit : (agents : List ConfiguredAgent) → are_ordered (names_of agents) ≡ true → Fit (map side_of agents) (map account_of agents)
entered_fit agents ordered = record { one = entered_are_one agents; ordered = ap are_ordered (entered_names agents) ∙ ordered; present = entered_present agents; apart = entered_apart agents }

-- an agent enters behind those that are in

in_found : (test : Account → Bool) (as_ : List Account) (a : Account) → AllByRecursion IsIn as_ → find test as_ ≡ Some a → a.is_in ≡ true
in_found test [] a present found = absurd cc
in_found test (b ∷ as_) a present found = by (test b) found (in_found test as_ a present.1)
  where
    by : (v : Bool) → cond v (Some b) (find test as_) ≡ Some a → (find test as_ ≡ Some a → a.is_in ≡ true) → a.is_in ≡ true
    by true is behind = let same : b ≡ a = cc in ap (λ (x : Account). x.is_in) (sym same) ∙ present.0
    by false is behind = behind is

twice_not : (new : List Account) (v : Bool) (made : Result (List Account) BookFault) → v ≡ true → cond v (Err Twice) made ≡ Ok new → ⊥
twice_not new true made is e = absurd cc
twice_not new false made is e = absurd cc

pub entered_behind : (name : List ℕ) (total : List Row) (as_ new : List Account) → AllByRecursion IsIn as_ → entered name total as_ ≡ Ok new → new ≡ as_ ++ accounts.new_account name total ∷ []
entered_behind name total as_ new present e = by (find (is_named_so name) as_) refl e
  where
    by : (found : Option Account) → find (is_named_so name) as_ ≡ found → entered_at name total as_ found ≡ Ok new → new ≡ as_ ++ accounts.new_account name total ∷ []
    by None is made = cc
    by (Some a) is made = absurd (twice_not new a.is_in _ (in_found (is_named_so name) as_ a present is) made)

-- updates and counts of applied commands

pub receiving_joins : (run : ModelRun) (session : ℕ) (key : Numbered) (k : ℕ) (state : TaskState) (ended : Bool) (s : Side) (a : Account) → is_session session s ≡ true
    → join s (accounts.receiving key k state ended a) ≡ received run (join s a) (Update session key k state ended)
receiving_joins run session key k state ended s a h = rw h refl

pub receiving_stays : (run : ModelRun) (session : ℕ) (key : Numbered) (k : ℕ) (state : TaskState) (ended : Bool) (s : Side) (a : Account) → is_session session s ≡ false
    → join s a ≡ received run (join s a) (Update session key k state ended)
receiving_stays run session key k state ended s a h = rw h refl

pub applied_joins : (run : ModelRun) (session count : ℕ) (s : Side) (a : Account) → join (after_applied session count s) (accounts.after_commands (newly session count s) a) ≡ received run (join s a) (Applied session count)
applied_joins run session count s a = by (counts s session count) refl
  where
    by : (b : Bool) → counts s session count ≡ b → join (after_applied session count s) (accounts.after_commands (newly session count s) a) ≡ received run (join s a) (Applied session count)
    by true h = rw h refl
    by false h = rw h refl

pub applied_keeps : (session count : ℕ) → KeepsSide (after_applied session count)
applied_keeps session count = record { name = λ s. name s (counts s session count) refl }
  where
    name : (s : Side) (b : Bool) → counts s session count ≡ b → (after_applied session count s).name ≡ s.name
    name s true h = rw h refl
    name s false h = rw h refl
