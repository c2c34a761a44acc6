-- What stays of each framework over a round.
use Rattle.std.specs.Prelude.{◌≡◌, ⊤, ℕ, true, false, List, [], ◌∷◌, IfSome}
use Rattle.quantity.specs.declared.rows.Row.{Row}
use Rattle.messages.specs.declared.framework.Framework.{Framework}
use Rattle.cluster_model.specs.Rounds.{is_subscribed, may_be_offered}
use Rattle.drf_pick.specs.Shares.{Tally}
use Rattle.drf_pick.specs.ClientShares.{IsPlaceOf}
use Rattle.master_rounds.specs.declared.shares.candidates.Eligibility.{Eligibility}
use Rattle.master_rounds.specs.declared.shares.candidates.Eligibility.TheVariants.{Always, Never, ByFilters}
pub use Rattle.master_rounds.specs.declared.shares.candidates.Candidate.{Candidate}

-- whatever is free on any agent may be offered to the framework, or nothing may,
-- or what its filters don't refuse
abbrev pub IsEligibility : Framework → Eligibility → Type 0
IsEligibility f Always =
    (now : ℕ) (agent : List ℕ) (free : List Row) → may_be_offered now agent free f ≡ true
IsEligibility f Never =
    (now : ℕ) (agent : List ℕ) (free : List Row) → may_be_offered now agent free f ≡ false
IsEligibility f ByFilters = (is_subscribed f.stream ≡ true) × (f.suppressed ≡ false)

pub record IsCandidate (t : Tally) (f : Framework) (c : Candidate) : Type 0 where
  pub eligibility : IsEligibility f c.eligibility
  pub place : IfSome c.place (IsPlaceOf t f.id f.role)

-- one for each of the first frameworks, in their order
abbrev pub AreCandidates : Tally → List Framework → List Candidate → Type 0
AreCandidates t fs [] = ⊤
AreCandidates t [] (c ∷ cs) = ⊥
AreCandidates t (f ∷ fs) (c ∷ cs) = IsCandidate t f c × AreCandidates t fs cs
