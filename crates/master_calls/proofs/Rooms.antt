-- What an ACCEPT launches has room on its agent.
use Rattle.std.proofs.Common.{◌≡◌, ◌<◌, ◌+◌, ℕ, Bool, true, false, cond, List, [], ◌∷◌, ◌++◌, map, drop, take, length, get_or, Option, Some, None, refl, sym, ap, ◌∙◌, subst, bytes_eq, arith}
use Rattle.std.proofs.lemmas.List.{drop_more, take_more}
use Rattle.names_core.specs.Ids.{Numbered}
use Rattle.quantity.specs.declared.rows.Row.{Row}
use Rattle.quantity.specs.Rows.{amount}
use Rattle.quantity.proofs.Amounts.{amount-append, covers_is_at_least}
use Rattle.messages.specs.declared.task.Job.{Job}
use Rattle.messages.specs.declared.task.Booked.{Booked}
use Rattle.messages.specs.declared.mail.Command.{Command}
use Rattle.messages.specs.declared.mail.Command.TheVariants.{Launch}
use Rattle.cluster_model.specs.Sides.{Side, job_rows, just_booked, taken, unended}
use Rattle.cluster_model.proofs.Weights.{taken_is, used_of, used_one}
use Rattle.offer_tables.specs.Accounts.{unended_rows}
use Rattle.master_agents.specs.Changes.{with_task}
use Rattle.master_agents.specs.Looks.{at_name, next_command, value_of}
use Rattle.master_agents.specs.Taking.{fits}
use Rattle.roster.specs.Sessions.{with_command}
use Rattle.master_state.specs.declared.state.State.{State}
use Rattle.master_state.specs.States.{ordered, ordered_as}
use Rattle.master_calls.specs.Launches.{HasRoomFor, booked_on, launched_all, launched_one}

-- what is told of the agent of a name

told_weaker : (name : List ℕ) (p q : Side → Bool) (ss : List Side) → ((s : Side) → p s ≡ true → q s ≡ true) → value_of name p false ss ≡ true → value_of name q false ss ≡ true
told_weaker name p q [] step h = h
told_weaker name p q (s ∷ ss) step h = by (bytes_eq s.name name) h (told_weaker name p q ss step)
  where
    by : (b : Bool) → cond b (p s) (value_of name p false ss) ≡ true → (value_of name p false ss ≡ true → value_of name q false ss ≡ true) → cond b (q s) (value_of name q false ss) ≡ true
    by true here behind = step s here
    by false here behind = behind here

told_changed : (name : List ℕ) (change : Side → Side) (p q : Side → Bool) (ss : List Side) → ((s : Side) → (change s).name ≡ s.name) → ((s : Side) → p s ≡ true → q (change s) ≡ true)
    → value_of name p false ss ≡ true → value_of name q false (at_name name change ss) ≡ true
told_changed name change p q [] keeps step h = h
told_changed name change p q (s ∷ ss) keeps step h = by (bytes_eq s.name name) refl h (told_changed name change p q ss keeps step)
  where
    by : (b : Bool) → bytes_eq s.name name ≡ b → cond b (p s) (value_of name p false ss) ≡ true → (value_of name p false ss ≡ true → value_of name q false (at_name name change ss) ≡ true)
        → value_of name q false (cond b (change s ∷ ss) (s ∷ at_name name change ss)) ≡ true
    by true is here behind = ap (λ v. cond v (q (change s)) (value_of name q false ss)) (ap (λ n. bytes_eq n name) (keeps s) ∙ is) ∙ step s here
    by false is here behind = rw is (behind here)

-- how much is used

rows_of : (name : List ℕ) (b : Booked) → amount name (unended_rows b) ≡ cond b.ended 0 (amount name b.job.resources)
rows_of name b = by b.ended
  where
    by : (e : Bool) → amount name (cond e [] b.job.resources) ≡ cond e 0 (amount name b.job.resources)
    by true = refl
    by false = refl

used_push : (name : List ℕ) (bs : List Booked) (b : Booked) → used_of name (bs ++ b ∷ []) ≡ used_of name bs + cond b.ended 0 (amount name b.job.resources)
used_push name [] b = omega (arith, used_one name b [])
used_push name (c ∷ bs) b = omega (arith, used_one name c (bs ++ b ∷ []), used_one name c bs, used_push name bs b)

pub all_unended : (js : List Job) → unended (map just_booked js) ≡ js
all_unended [] = refl
all_unended (j ∷ js) = ap (λ all. j ∷ all) (all_unended js)

fits_one : (b : Booked) (bs : List Booked) (s : Side) → fits (job_rows (unended (b ∷ bs))) s ≡ true → fits (unended_rows b) s ≡ true
fits_one b bs s h =
    let least = (covers_is_at_least s.total (job_rows (unended (b ∷ bs)) ++ taken s)).0 h in
    (covers_is_at_least s.total (unended_rows b ++ taken s)).1 (λ name.
    omega (arith, least name, amount-append name (job_rows (unended (b ∷ bs))) (taken s), amount-append name (unended_rows b) (taken s), used_one name b bs, rows_of name b))

fits_rest : (b : Booked) (bs : List Booked) (s : Side) → fits (job_rows (unended (b ∷ bs))) s ≡ true → fits (job_rows (unended bs)) (with_task b s) ≡ true
fits_rest b bs s h =
    let least = (covers_is_at_least s.total (job_rows (unended (b ∷ bs)) ++ taken s)).0 h in
    (covers_is_at_least s.total (job_rows (unended bs) ++ taken (with_task b s))).1 (λ name.
    omega (
      arith,
      least name,
      amount-append name (job_rows (unended (b ∷ bs))) (taken s),
      amount-append name (job_rows (unended bs)) (taken (with_task b s)),
      used_one name b bs,
      taken_is name s,
      taken_is name (with_task b s),
      used_push name s.booked b,
    ))

-- a command takes nothing

command_fits : (rows : List Row) (command : Command) (s : Side) → fits rows s ≡ true → fits rows (with_command command s) ≡ true
command_fits rows command s h = by s.is_open
  where
    by : (b : Bool) → fits rows (cond b (record s { waiting = s.waiting ++ command ∷ [] }) s) ≡ true
    by true = h
    by false = h

command_name : (command : Command) (s : Side) → (with_command command s).name ≡ s.name
command_name command s = by s.is_open
  where
    by : (b : Bool) → (cond b (record s { waiting = s.waiting ++ command ∷ [] }) s).name ≡ s.name
    by true = refl
    by false = refl

pub ordered_sides : (agent : List ℕ) (command : Command) (s : State) → (ordered agent command s).sides ≡ at_name agent (with_command command) s.sides
ordered_sides agent command s = by (value_of agent next_command None s.sides)
  where
    by : (next : Option (ℕ × ℕ)) → (ordered_as agent command next s).sides ≡ at_name agent (with_command command) s.sides
    by None = refl
    by (Some next) = refl

-- one launch after the other

pub room_one : (agent : List ℕ) (b : Booked) (bs : List Booked) (ss : List Side) → HasRoomFor agent (b ∷ bs) ss → value_of agent (fits (unended_rows b)) false ss ≡ true
room_one agent b bs ss h = told_weaker agent (fits (job_rows (unended (b ∷ bs)))) (fits (unended_rows b)) ss (fits_one b bs) h

pub room_next : (agent : List ℕ) (ids : List Numbered) (b : Booked) (bs : List Booked) (s : State) → HasRoomFor agent (b ∷ bs) s.sides → HasRoomFor agent bs (launched_one agent ids s b).sides
room_next agent ids b bs s h =
    let booked : HasRoomFor agent bs (at_name agent (with_task b) s.sides) = told_changed agent (with_task b) (fits (job_rows (unended (b ∷ bs)))) (fits (job_rows (unended bs))) s.sides (λ t. refl) (fits_rest b bs) h in
    subst (HasRoomFor agent bs) (sym (ordered_sides agent (Launch b.job ids) (booked_on agent b s)))
    (told_changed agent (with_command (Launch b.job ids)) (fits (job_rows (unended bs))) (fits (job_rows (unended bs))) (at_name agent (with_task b) s.sides) (command_name (Launch b.job ids)) (command_fits (job_rows (unended bs)) (Launch b.job ids)) booked)

-- the tasks from a place on begin with the one that is there
pub room_at : (agent : List ℕ) (bs : List Booked) (i : ℕ) (b : Booked) (ss : List Side) → i < length bs → b ≡ get_or bs i b → HasRoomFor agent (drop i bs) ss → HasRoomFor agent (b ∷ drop (i + 1) bs) ss
room_at agent bs i b ss low is h = subst (λ cs. HasRoomFor agent cs ss) (drop_more bs i b low ∙ ap (λ c. c ∷ drop (i + 1) bs) (sym is)) h

-- one launch more
pub launched_more : (agent : List ℕ) (ids : List Numbered) (bs : List Booked) (i : ℕ) (b : Booked) (s : State) → i < length bs → b ≡ get_or bs i b
    → launched_one agent ids (launched_all agent ids (take i bs) s) b ≡ launched_all agent ids (take (i + 1) bs) s
launched_more agent ids bs i b s low is =
    ap (launched_one agent ids (launched_all agent ids (take i bs) s)) is ∙ sym (push (take i bs) (get_or bs i b) s) ∙ ap (λ cs. launched_all agent ids cs s) (sym (take_more bs i b low))
  where
    push : (cs : List Booked) (c : Booked) (s : State) → launched_all agent ids (cs ++ c ∷ []) s ≡ launched_one agent ids (launched_all agent ids cs s) c
    push [] c s = refl
    push (d ∷ cs) c s = push cs c (launched_one agent ids s d)
