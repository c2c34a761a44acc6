-- Updates that are received.
use Rattle.std.proofs.Common.{◌≡◌, ℕ, zero, Bool, true, false, ◌||◌, cond, List, [], ◌∷◌, ◌++◌, map, flat_map, Some, refl, sym, ap, ◌∙◌, arith, ⊎_elim}
use Rattle.std.proofs.lemmas.Bool.{cases_Bool}
use Rattle.quantity.specs.Rows.{amount}
use Rattle.names_core.specs.Ids.{Numbered, same}
use Rattle.names_core.specs.declared.state.TaskState.{TaskState}
use Rattle.messages.specs.declared.task.Offer.{Offer}
use Rattle.messages.specs.declared.task.Booked.{Booked}
use Rattle.cluster_model.specs.Sides.{received_update}
use Rattle.offer_book.specs.declared.located.Located.{Located}
use Rattle.offer_book.specs.Lists.{same_id, list_at, find_from, Once}
use Rattle.offer_book.proofs.Changing.{same_turned, received_stays}
use Rattle.offer_book.proofs.Taking.{map_in}
use Rattle.offer_tables.specs.Accounts.{unended_rows}
use Rattle.offer_tables.specs.Rows.{ChangedAt, IsBook, IsGivenBack}
use Rattle.offer_tables.specs.declared.agents.AgentRow.{AgentRow}
use Rattle.offer_tables.proofs.Amounts.{row_less, tasks_less}
use Rattle.offer_tables.proofs.Books.{at_place-same, book_changed, book_ended}

module _ (key : Numbered) (k : ℕ) (state : TaskState) where
  received_gone : (b : Booked) → same_id key b.job.key ≡ true → unended_rows (received_update key k state true b) ≡ []
  received_gone b h =
      let t : same b.job.key key ≡ true = same_turned key b.job.key ∙ h in
      rw t (ap (λ e. cond e [] b.job.resources) (or_true b.ended))
    where
      or_true : (v : Bool) → (v || true) ≡ true
      or_true true = refl
      or_true false = refl

  received_parts : (b : Booked) → unended_rows (received_update key k state false b) ≡ unended_rows b
  received_parts b = ⊎_elim
      (λ t. rw t (ap (λ e. cond e [] b.job.resources) (or_false b.ended)))
      (λ t. rw t refl)
      (cases_Bool (same b.job.key key))
    where
      or_false : (v : Bool) → (v || false) ≡ v
      or_false true = refl
      or_false false = refl

  all_parts : (bs : List Booked) → flat_map unended_rows (map (received_update key k state false) bs) ≡ flat_map unended_rows bs
  all_parts [] = refl
  all_parts (b ∷ bs) = λ i. received_parts b i ++ all_parts bs i

  pub book_received : (ends : Bool) (names : List (List ℕ)) (old new : List AgentRow) (offers : List (List Offer)) (tasks tasks2 : List (List Booked)) (e : Located Booked)
      → IsBook names old offers tasks → Once (λ x. x.job.key) zero tasks → find_from (λ x. x.job.key) zero key tasks ≡ Some e
      → tasks2 ≡ map (map (received_update key k state ends)) tasks
      → ChangedAt (IsGivenBack (cond ends (unended_rows e.item) [])) e.place old new → IsBook names new offers tasks2
  book_received true names old new offers tasks tasks2 e is once at tasks_are c =
      book_ended (received_update key k state true) names old new offers tasks tasks2 key e (received_stays key k state true) received_gone is once at tasks_are c
  book_received false names old new offers tasks tasks2 e is once at tasks_are c =
      let f = received_update key k state false in
      book_changed (IsGivenBack []) (λ os. os) (map f) names old new offers offers tasks tasks2 e.place (λ r s back. back.same_name) c is
      (sym (at_place-same e.place offers)) (tasks_are ∙ map_in (λ x. x.job.key) f key (received_stays key k state false) tasks e once at)
      (λ r s row back is_row. row_less r s (list_at e.place offers) (list_at e.place offers) (list_at e.place tasks) (map f (list_at e.place tasks)) [] is_row back
      (λ name. tasks_less (list_at e.place offers) (list_at e.place tasks) (map f (list_at e.place tasks)) [] name (omega (arith, ap (amount name) (all_parts (list_at e.place tasks)))))
      (λ none. none) (λ none. ap (map f) none))
