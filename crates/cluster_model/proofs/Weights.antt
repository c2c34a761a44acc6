-- How much of a name offers and booked tasks take.
use Rattle.std.proofs.Common.{◌≡◌, ℕ, ◌+◌, ◌≤◌, Bool, true, false, not, cond, List, [], ◌∷◌, ◌++◌, map, filter, refl, ap, ◌∙◌, arith, zero-le}
use Rattle.quantity.specs.declared.rows.Row.{Row}
use Rattle.quantity.specs.Rows.{amount, covers}
use Rattle.quantity.specs.Laws.{AtLeast}
use Rattle.quantity.proofs.Amounts.{amount-append, covers_is_at_least}
use Rattle.messages.specs.declared.task.Job.{Job}
use Rattle.messages.specs.declared.task.Offer.{Offer}
use Rattle.messages.specs.declared.task.Booked.{Booked}
use Rattle.cluster_model.specs.Sides.{Side, job_rows, offer_rows, taken, unended}

pub covered : (total rows : List Row) → covers total rows ≡ true → AtLeast total rows
covered total rows h = (covers_is_at_least total rows).0 h

-- how much of a name offers take, and booked tasks that haven't ended
abbrev pub offered_of : List ℕ → List Offer → ℕ
offered_of name os = amount name (offer_rows os)

abbrev pub used_of : List ℕ → List Booked → ℕ
used_of name bs = amount name (job_rows (unended bs))

pub taken_is : (name : List ℕ) (s : Side) → amount name (taken s) ≡ offered_of name s.offers + used_of name s.booked
taken_is name s = amount-append name (offer_rows s.offers) (job_rows (unended s.booked))

pub offered_one : (name : List ℕ) (o : Offer) (os : List Offer) → offered_of name (o ∷ os) ≡ amount name o.resources + offered_of name os
offered_one name o os = amount-append name o.resources (offer_rows os)

pub offered_more : (name : List ℕ) (os : List Offer) (o : Offer) → offered_of name (os ++ o ∷ []) ≡ offered_of name os + amount name o.resources
offered_more name [] o = omega (arith, offered_one name o [])
offered_more name (p ∷ os) o = omega (arith, offered_one name p (os ++ o ∷ []), offered_one name p os, offered_more name os o)

-- what offers are split into by a test
pub offered_split : (name : List ℕ) (test : Offer → Bool) (os : List Offer) → offered_of name (filter test os) + offered_of name (filter (λ o. not (test o)) os) ≡ offered_of name os
offered_split name test [] = refl
offered_split name test (o ∷ os) = by (test o) (offered_split name test os)
  where
    by : (b : Bool) → offered_of name (filter test os) + offered_of name (filter (λ p. not (test p)) os) ≡ offered_of name os
        → offered_of name (cond b (o ∷ filter test os) (filter test os)) + offered_of name (cond (not b) (o ∷ filter (λ p. not (test p)) os) (filter (λ p. not (test p)) os)) ≡ offered_of name (o ∷ os)
    by true ih = omega (arith, offered_one name o os, offered_one name o (filter test os), ih)
    by false ih = omega (arith, offered_one name o os, offered_one name o (filter (λ p. not (test p)) os), ih)

pub used_one : (name : List ℕ) (b : Booked) (bs : List Booked) → used_of name (b ∷ bs) ≡ (cond b.ended 0 (amount name b.job.resources)) + used_of name bs
used_one name b bs = by b.ended
  where
    by : (e : Bool) → amount name (job_rows (cond e (unended bs) (b.job ∷ unended bs))) ≡ (cond e 0 (amount name b.job.resources)) + used_of name bs
    by true = omega arith
    by false = amount-append name b.job.resources (job_rows (unended bs))

pub used_more : (name : List ℕ) (bs : List Booked) (b : Booked) → b.ended ≡ false → used_of name (bs ++ b ∷ []) ≡ used_of name bs + amount name b.job.resources
used_more name [] b e =
    let one : used_of name (b ∷ []) ≡ amount name b.job.resources + used_of name [] = used_one name b [] ∙ ap (λ t. cond t 0 (amount name b.job.resources) + used_of name []) e in
    omega (arith, one)
used_more name (c ∷ bs) b e = omega (arith, used_one name c (bs ++ b ∷ []), used_one name c bs, used_more name bs b e)

none_back : (d e : Bool) (n : ℕ) → (e ≡ true → d ≡ true) → cond d 0 n ≤ cond e 0 n
none_back true e n f = zero-le
none_back false true n f = absurd (let t : false ≡ true = f refl in cc)
none_back false false n f = omega arith

-- a change that keeps each job, and takes no end back, takes no more
pub used_less : (name : List ℕ) (f : Booked → Booked) → ((b : Booked) → (f b).job ≡ b.job) → ((b : Booked) → b.ended ≡ true → (f b).ended ≡ true) → (bs : List Booked) → used_of name (map f bs) ≤ used_of name bs
used_less name f same for_good [] = omega arith
used_less name f same for_good (b ∷ bs) =
    omega (arith, used_one name (f b) (map f bs), used_one name b bs, used_less name f same for_good bs, ap (λ (j : Job). cond (f b).ended 0 (amount name j.resources)) (same b), none_back (f b).ended b.ended (amount name b.job.resources) (for_good b))

pub used_fewer : (name : List ℕ) (keep : Booked → Bool) (bs : List Booked) → used_of name (filter keep bs) ≤ used_of name bs
used_fewer name keep [] = omega arith
used_fewer name keep (b ∷ bs) = by (keep b) (used_fewer name keep bs)
  where
    by : (e : Bool) → used_of name (filter keep bs) ≤ used_of name bs → used_of name (cond e (b ∷ filter keep bs) (filter keep bs)) ≤ used_of name (b ∷ bs)
    by true ih = omega (arith, used_one name b bs, used_one name b (filter keep bs), ih)
    by false ih = omega (arith, used_one name b bs, ih)
