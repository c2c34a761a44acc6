-- One row changes, and with it the lists at its place.
use Rattle.std.proofs.Common.{◌≡◌, ℕ, zero, suc, ◌<◌, ◌≤◌, Bool, true, List, [], ◌∷◌, map, length, get_or, None, Some, bytes_eq, refl, sym, ap, ◌∙◌, subst, arith, find}
use Rattle.std.proofs.Math.ListN.{set}
use Rattle.std.proofs.lemmas.Bool.{and_parts}
use Rattle.messages.specs.declared.task.Offer.{Offer}
use Rattle.messages.specs.declared.task.Booked.{Booked}
use Rattle.offer_book.specs.Lists.{at_place, list_at}
use Rattle.offer_tables.specs.Accounts.{Account, is_agent}
use Rattle.offer_tables.specs.Books.{at_first}
use Rattle.offer_tables.specs.Rows.{ChangedAt, IsFirst, IsPlaceOf, IsRow, Rows, account, accounts, is_row_of}
use Rattle.offer_tables.specs.declared.agents.AgentRow.{AgentRow}

pub changed_set : (R : AgentRow → AgentRow → Type 0) (rows : List AgentRow) (p : ℕ) (r s : AgentRow) → p < length rows → r ≡ get_or rows p r → R r s → ChangedAt R p rows (set rows p s)
changed_set R [] p r s within is h = absurd (omega arith)
changed_set R (q ∷ rows) zero r s within is h = (subst (λ x. R x s) is h, refl)
changed_set R (q ∷ rows) (suc p) r s within is h = (refl, changed_set R rows p r s (omega arith) is h)

pub changed_none : (R : AgentRow → AgentRow → Type 0) (rows : List AgentRow) (p : ℕ) → p < length rows → ((r : AgentRow) → R r r) → ChangedAt R p rows rows
changed_none R [] p within h = absurd (omega arith)
changed_none R (q ∷ rows) zero within h = (h q, refl)
changed_none R (q ∷ rows) (suc p) within h = (refl, changed_none R rows p (omega arith) h)

-- how many there are
pub enough_offers : (rows : List AgentRow) (offers : List (List Offer)) (tasks : List (List Booked)) → Rows rows offers tasks → length rows ≤ length offers
enough_offers [] offers tasks h = omega arith
enough_offers (r ∷ rows) [] tasks h = absurd h
enough_offers (r ∷ rows) (os ∷ offers) [] h = absurd h
enough_offers (r ∷ rows) (os ∷ offers) (bs ∷ tasks) h = omega (arith, enough_offers rows offers tasks h.1)

pub enough_tasks : (rows : List AgentRow) (offers : List (List Offer)) (tasks : List (List Booked)) → Rows rows offers tasks → length rows ≤ length tasks
enough_tasks [] offers tasks h = omega arith
enough_tasks (r ∷ rows) [] tasks h = absurd h
enough_tasks (r ∷ rows) (os ∷ offers) [] h = absurd h
enough_tasks (r ∷ rows) (os ∷ offers) (bs ∷ tasks) h = omega (arith, enough_tasks rows offers tasks h.1)

-- the row at a place, with the lists there
pub row_at : (rows : List AgentRow) (offers : List (List Offer)) (tasks : List (List Booked)) (p : ℕ) (r : AgentRow) → Rows rows offers tasks → p < length rows → r ≡ get_or rows p r
    → IsRow r (list_at p offers) (list_at p tasks)
row_at [] offers tasks p r h within is = absurd (omega arith)
row_at (q ∷ rows) [] tasks p r h within is = absurd h
row_at (q ∷ rows) (os ∷ offers) [] p r h within is = absurd h
row_at (q ∷ rows) (os ∷ offers) (bs ∷ tasks) zero r h within is = subst (λ x. IsRow x os bs) (sym is) h.0
row_at (q ∷ rows) (os ∷ offers) (bs ∷ tasks) (suc p) r h within is = row_at rows offers tasks p r h.1 (omega arith) is

-- the changed rows are as their lists say, and stand for the changed accounts
pub rows_changed : (R : AgentRow → AgentRow → Type 0) (g : List Offer → List Offer) (h : List Booked → List Booked) (old new : List AgentRow) (offers : List (List Offer)) (tasks : List (List Booked)) (p : ℕ)
    → ChangedAt R p old new → Rows old offers tasks
    → ((r s : AgentRow) → r ≡ get_or old p r → R r s → IsRow r (list_at p offers) (list_at p tasks) → IsRow s (g (list_at p offers)) (h (list_at p tasks)))
    → Rows new (at_place p g offers) (at_place p h tasks)
rows_changed R g h [] new offers tasks p c rows step = absurd c
rows_changed R g h (r ∷ old) [] offers tasks p c rows step = absurd c
rows_changed R g h (r ∷ old) (s ∷ new) [] tasks p c rows step = absurd rows
rows_changed R g h (r ∷ old) (s ∷ new) (os ∷ offers) [] p c rows step = absurd rows
rows_changed R g h (r ∷ old) (s ∷ new) (os ∷ offers) (bs ∷ tasks) zero c rows step = (step r s refl c.0 rows.0, subst (λ rs. Rows rs offers tasks) c.1 rows.1)
rows_changed R g h (r ∷ old) (s ∷ new) (os ∷ offers) (bs ∷ tasks) (suc p) c rows step =
    (subst (λ x. IsRow x os bs) c.0 rows.0, rows_changed R g h old new offers tasks p c.1 rows.1 step)

pub accounts_changed : (R : AgentRow → AgentRow → Type 0) (g : List Offer → List Offer) (h : List Booked → List Booked) (f : Account → Account) (old new : List AgentRow)
    (offers : List (List Offer)) (tasks : List (List Booked)) (p : ℕ)
    → ChangedAt R p old new → Rows old offers tasks
    → ((r s : AgentRow) (os : List Offer) (bs : List Booked) → r ≡ get_or old p r → R r s → IsRow r os bs → account s (g os) (h bs) ≡ f (account r os bs))
    → accounts new (at_place p g offers) (at_place p h tasks) ≡ at_place p f (accounts old offers tasks)
accounts_changed R g h f [] new offers tasks p c rows step = absurd c
accounts_changed R g h f (r ∷ old) [] offers tasks p c rows step = absurd c
accounts_changed R g h f (r ∷ old) (s ∷ new) [] tasks p c rows step = absurd rows
accounts_changed R g h f (r ∷ old) (s ∷ new) (os ∷ offers) [] p c rows step = absurd rows
accounts_changed R g h f (r ∷ old) (s ∷ new) (os ∷ offers) (bs ∷ tasks) zero c rows step = λ i. step r s os bs refl c.0 rows.0 i ∷ accounts (sym c.1 i) offers tasks
accounts_changed R g h f (r ∷ old) (s ∷ new) (os ∷ offers) (bs ∷ tasks) (suc p) c rows step =
    λ i. account (sym c.0 i) os bs ∷ accounts_changed R g h f old new offers tasks p c.1 rows.1 step i

pub names_changed : (R : AgentRow → AgentRow → Type 0) (old new : List AgentRow) (p : ℕ) → ((r s : AgentRow) → R r s → s.name ≡ r.name) → ChangedAt R p old new
    → map (λ r. r.name) old ≡ map (λ r. r.name) new
names_changed R [] new p same c = absurd c
names_changed R (r ∷ old) [] p same c = absurd c
names_changed R (r ∷ old) (s ∷ new) zero same c = λ i. sym (same r s c.0) i ∷ map (λ x. x.name) (c.1 i)
names_changed R (r ∷ old) (s ∷ new) (suc p) same c = λ i. (c.0 i).name ∷ names_changed R old new p same c.1 i

-- where the first row that passes a test leads

module _ (test : AgentRow → Bool) (sees : Account → Bool) (same : (r : AgentRow) (os : List Offer) (bs : List Booked) → sees (account r os bs) ≡ test r) where
  pub at_first_place : (f : Account → Account) (rows : List AgentRow) (offers : List (List Offer)) (tasks : List (List Booked)) (p : ℕ) → Rows rows offers tasks
      → IsFirst test rows (Some p) → at_first sees f (accounts rows offers tasks) ≡ at_place p f (accounts rows offers tasks)
  at_first_place f [] offers tasks p h is = absurd (omega (arith, is.0))
  at_first_place f (r ∷ rows) [] tasks p h is = absurd h
  at_first_place f (r ∷ rows) (os ∷ offers) [] p h is = absurd h
  at_first_place f (r ∷ rows) (os ∷ offers) (bs ∷ tasks) zero h is = rw (same r os bs ∙ is.1 r) refl
  at_first_place f (r ∷ rows) (os ∷ offers) (bs ∷ tasks) (suc p) h is =
      rw (same r os bs ∙ is.2 0 r (omega arith)) (ap (λ as_. account r os bs ∷ as_) (at_first_place f rows offers tasks p h.1
      (omega (arith, is.0), (λ d. is.1 d), (λ k d low. is.2 (suc k) d (omega arith)))))

  pub account_there : (rows : List AgentRow) (offers : List (List Offer)) (tasks : List (List Booked)) (p : ℕ) (r : AgentRow) → Rows rows offers tasks
      → IsFirst test rows (Some p) → r ≡ get_or rows p r → find sees (accounts rows offers tasks) ≡ Some (account r (list_at p offers) (list_at p tasks))
  account_there [] offers tasks p r h is at = absurd (omega (arith, is.0))
  account_there (q ∷ rows) [] tasks p r h is at = absurd h
  account_there (q ∷ rows) (os ∷ offers) [] p r h is at = absurd h
  account_there (q ∷ rows) (os ∷ offers) (bs ∷ tasks) zero r h is at = rw (same q os bs ∙ is.1 q) (ap (λ x. Some (account x os bs)) (sym at))
  account_there (q ∷ rows) (os ∷ offers) (bs ∷ tasks) (suc p) r h is at =
      rw (same q os bs ∙ is.2 0 q (omega arith)) (account_there rows offers tasks p r h.1 (omega (arith, is.0), (λ d. is.1 d), (λ k d low. is.2 (suc k) d (omega arith))) at)

  pub account_nowhere : (rows : List AgentRow) (offers : List (List Offer)) (tasks : List (List Booked)) → Rows rows offers tasks
      → IsFirst test rows None → find sees (accounts rows offers tasks) ≡ None
  account_nowhere [] offers tasks h is = refl
  account_nowhere (r ∷ rows) [] tasks h is = absurd h
  account_nowhere (r ∷ rows) (os ∷ offers) [] h is = absurd h
  account_nowhere (r ∷ rows) (os ∷ offers) (bs ∷ tasks) h is =
      rw (same r os bs ∙ is 0 r (omega arith)) (account_nowhere rows offers tasks h.1 (λ k d low. is (suc k) d (omega arith)))

module _ (name : List ℕ) where
  pub at_first_agent : (f : Account → Account) (rows : List AgentRow) (offers : List (List Offer)) (tasks : List (List Booked)) (p : ℕ) → Rows rows offers tasks
      → IsPlaceOf name rows (Some p) → at_first (is_agent name) f (accounts rows offers tasks) ≡ at_place p f (accounts rows offers tasks)
  at_first_agent = at_first_place (is_row_of name) (is_agent name) (λ r os bs. refl)

  pub agent_there : (rows : List AgentRow) (offers : List (List Offer)) (tasks : List (List Booked)) (p : ℕ) (r : AgentRow) → Rows rows offers tasks
      → IsPlaceOf name rows (Some p) → r ≡ get_or rows p r → find (is_agent name) (accounts rows offers tasks) ≡ Some (account r (list_at p offers) (list_at p tasks))
  agent_there = account_there (is_row_of name) (is_agent name) (λ r os bs. refl)

  pub agent_nowhere : (rows : List AgentRow) (offers : List (List Offer)) (tasks : List (List Booked)) → Rows rows offers tasks
      → IsPlaceOf name rows None → find (is_agent name) (accounts rows offers tasks) ≡ None
  agent_nowhere = account_nowhere (is_row_of name) (is_agent name) (λ r os bs. refl)

-- the agent of a place is in
pub is_in_there : (name : List ℕ) (rows : List AgentRow) (p : ℕ) (r : AgentRow) → IsPlaceOf name rows (Some p) → r ≡ get_or rows p r → r.is_in ≡ true
is_in_there name rows p r is at = (and_parts r.is_in (bytes_eq r.name name) (subst (λ x. is_row_of name x ≡ true) (sym at) (is.1 r))).0

-- some row is at a place
pub slot : (rows : List AgentRow) (p : ℕ) → p < length rows → AgentRow
slot [] p within = absurd (omega arith)
slot (r ∷ rows) zero within = r
slot (r ∷ rows) (suc p) within = slot rows p (omega arith)

pub settled : (rows : List AgentRow) (p : ℕ) (within : p < length rows) → get_or rows p (slot rows p within) ≡ get_or rows p (get_or rows p (slot rows p within))
unfolding slot
settled [] p within = absurd (omega arith)
settled (r ∷ rows) zero within = refl
settled (r ∷ rows) (suc p) within = settled rows p (omega arith)

pub same_row : (rows : List AgentRow) (p : ℕ) (r s : AgentRow) → r ≡ get_or rows p r → s ≡ get_or rows p s → p < length rows → r ≡ s
same_row [] p r s h g within = absurd (omega arith)
same_row (q ∷ rows) zero r s h g within = h ∙ sym g
same_row (q ∷ rows) (suc p) r s h g within = same_row rows p r s h g (omega arith)
