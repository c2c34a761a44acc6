-- What a task that has ended takes.
use Rattle.std.proofs.Common.{◌≡◌, ℕ, Bool, true, false, cond, List, [], ◌∷◌, ◌++◌, Option, None, Some, Result, Ok, Err, refl, ap, ◌∙◌}
use Rattle.messages.specs.declared.task.Booked.{Booked}
use Rattle.cluster_model.specs.Sides.{job_rows, offer_rows, unended}
use Rattle.quantity.specs.Rows.{rest_of}
use Rattle.offer_tables.specs.Accounts.{Account, fits, free, unended_rows, with_task}
use Rattle.offer_tables.specs.Books.{agent_of, at_first, booked_at, free_of, is_agent, is_booked}
use Rattle.offer_tables.specs.declared.fault.BookFault.{BookFault}
use Rattle.offer_tables.specs.declared.fault.BookFault.TheVariants.{NoRoom, Twice}
use Rattle.offer_tables.specs.Laws.{EndedTakesNothing}

unended_stay : (bs : List Booked) (b : Booked) → b.ended ≡ true → unended (bs ++ b ∷ []) ≡ unended bs
unended_stay [] b is = rw is refl
unended_stay (c ∷ bs) b is = by c.ended (unended_stay bs b is)
  where
    by : (e : Bool) → unended (bs ++ b ∷ []) ≡ unended bs → cond e (unended (bs ++ b ∷ [])) (c.job ∷ unended (bs ++ b ∷ [])) ≡ cond e (unended bs) (c.job ∷ unended bs)
    by true ih = ih
    by false ih = ap (λ js. c.job ∷ js) ih

free_stays : (b : Booked) (a : Account) → b.ended ≡ true → free (with_task b a) ≡ free a
free_stays b a is = ap (λ js. rest_of a.total (offer_rows a.offers ++ job_rows js)) (unended_stay a.booked b is)

all_stay : (test : Account → Bool) (agent : List ℕ) (b : Booked) → b.ended ≡ true → (as_ : List Account) → free_of agent (at_first test (with_task b) as_) ≡ free_of agent as_
all_stay test agent b is [] = refl
all_stay test agent b is (a ∷ as_) = by (test a) (all_stay test agent b is as_)
  where
    here : (v : Bool) → is_agent agent a ≡ v → free_of agent (with_task b a ∷ as_) ≡ free_of agent (a ∷ as_)
    here true e = rw e (ap (λ rows. Ok rows) (free_stays b a is))
    here false e = rw e refl

    behind : (v : Bool) → is_agent agent a ≡ v → free_of agent (at_first test (with_task b) as_) ≡ free_of agent as_ → free_of agent (a ∷ at_first test (with_task b) as_) ≡ free_of agent (a ∷ as_)
    behind true e ih = rw e refl
    behind false e ih = rw e ih

    by : (t : Bool) → free_of agent (at_first test (with_task b) as_) ≡ free_of agent as_ → free_of agent (cond t (with_task b a ∷ as_) (a ∷ at_first test (with_task b) as_)) ≡ free_of agent (a ∷ as_)
    by true ih = here (is_agent agent a) refl
    by false ih = behind (is_agent agent a) refl ih

made_so : (twice room : Bool) (changed new : List Account) → ◌≡◌ {A = Result (List Account) BookFault} (cond twice (Err Twice) (cond room (Ok changed) (Err NoRoom))) (Ok new) → new ≡ changed
made_so true room changed new e = absurd cc
made_so false true changed new e = cc
made_so false false changed new e = absurd cc

pub ended_takes_nothing : EndedTakesNothing
ended_takes_nothing name agent b old new is e = by (agent_of name old) e
  where
    by : (found : Option Account) → booked_at name b old found ≡ Ok new → free_of agent new ≡ free_of agent old
    by None q = absurd cc
    by (Some a) q =
        ap (free_of agent) (made_so (is_booked b.job.key old) (fits a (unended_rows b)) (at_first (is_agent name) (with_task b) old) new q)
        ∙ all_stay (is_agent name) agent b is old
