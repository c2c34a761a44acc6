-- How many tasks are booked, and the accounts at places.
use Rattle.std.proofs.Common.{◌≡◌, ℕ, zero, suc, ◌+◌, ◌<◌, ◌≤◌, List, [], ◌∷◌, length, take, get_or, slice_get, None, Some, refl, ap, arith}
use Rattle.std.proofs.lemmas.List.{length-append, length-map}
use Rattle.messages.specs.declared.task.Offer.{Offer}
use Rattle.messages.specs.declared.task.Booked.{Booked}
use Rattle.offer_book.specs.Lists.{list_at}
use Rattle.offer_tables.specs.Accounts.{Account}
use Rattle.offer_tables.specs.Found.{place, tasks_on}
use Rattle.offer_tables.specs.Held.{all_placed, placed_on}
use Rattle.offer_tables.specs.Rows.{Rows, account, accounts}
use Rattle.offer_tables.specs.declared.agents.AgentRow.{AgentRow}

pub counted_more : (as_ : List Account) (n : ℕ) → n < length as_ → length (all_placed (take (suc n) as_)) ≡ length (all_placed (take n as_)) + length (tasks_on n as_)
counted_more [] n h = absurd (omega arith)
counted_more (a ∷ as_) zero h = omega (arith, length-append (placed_on a) [], length-map a.booked (place a.name))
counted_more (a ∷ as_) (suc n) h = omega (arith, length-append (placed_on a) (all_placed (take (suc n) as_)), length-append (placed_on a) (all_placed (take n as_)), counted_more as_ n (omega arith))

pub account_got : (rs : List AgentRow) (offers : List (List Offer)) (tasks : List (List Booked)) (p : ℕ) (r : AgentRow) → Rows rs offers tasks → p < length rs → r ≡ get_or rs p r
    → Some (account r (list_at p offers) (list_at p tasks)) ≡ slice_get (accounts rs offers tasks) p
account_got [] offers tasks p r h within is = absurd (omega arith)
account_got (q ∷ rs) [] tasks p r h within is = absurd h
account_got (q ∷ rs) (os ∷ offers) [] p r h within is = absurd h
account_got (q ∷ rs) (os ∷ offers) (bs ∷ tasks) zero r h within is = ap (λ x. Some (account x os bs)) is
account_got (q ∷ rs) (os ∷ offers) (bs ∷ tasks) (suc p) r h within is = account_got rs offers tasks p r h.1 (omega arith) is

pub none_got : (as_ : List Account) (p : ℕ) → length as_ ≤ p → None ≡ slice_get as_ p
none_got [] p h = refl
none_got (a ∷ as_) zero h = absurd (omega arith)
none_got (a ∷ as_) (suc p) h = none_got as_ p (omega arith)
