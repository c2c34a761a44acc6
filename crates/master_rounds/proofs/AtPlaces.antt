-- The candidates of a round, place by place.
use Rattle.std.proofs.Common.{◌≡◌, ℕ, zero, suc, ◌<◌, ◌+◌, List, [], ◌∷◌, ◌++◌, length, take, get_or, Option, Some, None, IfSome, Bor, sym, ap, ◌∙◌, subst, arith}
use Rattle.std.specs.Prelude.{is_some, nat_lt}
use Rattle.std.proofs.lemmas.Bool.Decides.{nat_tests}
use Rattle.std.proofs.lemmas.List.{length-take-le, take_more}
use Rattle.names_core.specs.Ids.{Numbered}
use Rattle.quantity.specs.declared.rows.Row.{Row}
use Rattle.messages.specs.declared.framework.Framework.{Framework}
use Rattle.drf_pick.specs.Shares.{Tally, held_more}
use Rattle.drf_pick.specs.ClientShares.{IsPlaceOf}
use Rattle.drf_pick.specs.declared.client_share.ClientPlace.{ClientPlace}
use Rattle.drf_pick.proofs.PlacesKept.{place_kept}
use Rattle.master_rounds.specs.Candidates.{AreCandidates, Candidate, IsCandidate}

candidate_at : (t : Tally) (fs : List Framework) (cs : List Candidate) (i : ℕ) (f : Framework) (c : Candidate) → AreCandidates t fs cs → i < length fs → f ≡ get_or fs i f → i < length cs → c ≡ get_or cs i c → IsCandidate t f c
candidate_at t fs [] i f c are within here inside its = absurd (omega arith)
candidate_at t [] (d ∷ cs) i f c are within here inside its = absurd are
candidate_at t (g ∷ fs) (d ∷ cs) zero f c are within here inside its = subst (λ h. IsCandidate t h c) (sym here) (subst (IsCandidate t g) (sym its) are.0)
candidate_at t (g ∷ fs) (d ∷ cs) (suc i) f c are within here inside its = candidate_at t fs cs i f c are.1 (omega arith) here (omega arith) its

-- the one that is lent
pub lent_at : (t : Tally) (fs : List Framework) (cs : List Candidate) (i : ℕ) (f : Framework) (o : Option (Bor Candidate)) → AreCandidates t fs cs → i < length fs → f ≡ get_or fs i f → is_some o ≡ nat_lt i (length cs) → IfSome o (λ c. c.now ≡ get_or cs i c.now)
    → IfSome o (λ c. IsCandidate t f c.now)
lent_at t fs cs i f None are within here some its = tt
lent_at t fs cs i f (Some c) are within here some its =
    let inside : i < length cs = grind (arith, nat_tests) in
    candidate_at t fs cs i f c.now are within here inside its

pub of_lent : {X : Type 0} (P Q : X → Type 0) → ((x : X) → P x → Q x) → (o : Option (Bor X)) → IfSome o (λ c. P c.now) → IfSome o (λ c. Q c.now)
of_lent P Q step None is = tt
of_lent P Q step (Some c) is = step c.now is

one_more : (t : Tally) (fs : List Framework) (cs : List Candidate) (f : Framework) (c : Candidate) → AreCandidates t fs cs → length cs ≡ length fs → IsCandidate t f c → AreCandidates t (fs ++ f ∷ []) (cs ++ c ∷ [])
one_more t [] [] f c are all is = (is, tt)
one_more t [] (d ∷ cs) f c are all is = absurd are
one_more t (g ∷ fs) [] f c are all is = absurd (omega (arith, all))
one_more t (g ∷ fs) (d ∷ cs) f c are all is = (are.0, one_more t fs cs f c are.1 (omega (arith, all)) is)

pub candidates_more : (t : Tally) (fs : List Framework) (cs : List Candidate) (i : ℕ) (f : Framework) (c : Candidate) → AreCandidates t (take i fs) cs → length cs ≡ i → i < length fs → f ≡ get_or fs i f → IsCandidate t f c
    → AreCandidates t (take (i + 1) fs) (cs ++ c ∷ [])
candidates_more t fs cs i f c are all within here is =
    subst (λ gs. AreCandidates t gs (cs ++ c ∷ [])) (sym (take_more fs i f within ∙ ap (λ g. take i fs ++ g ∷ []) (sym here))) (one_more t (take i fs) cs f c are (all ∙ sym (length-take-le i fs (omega arith))) is)

-- when more is given

kept_place : (framework : Numbered) (rows : List Row) (t : Tally) (f : Framework) (place : Option ClientPlace) → IfSome place (IsPlaceOf t f.id f.role) → IfSome place (IsPlaceOf (held_more framework rows t) f.id f.role)
kept_place framework rows t f None is = tt
kept_place framework rows t f (Some place) is = place_kept framework rows t f.id f.role place is

pub candidates_kept : (framework : Numbered) (rows : List Row) (t : Tally) (fs : List Framework) (cs : List Candidate) → AreCandidates t fs cs → AreCandidates (held_more framework rows t) fs cs
candidates_kept framework rows t fs [] are = tt
candidates_kept framework rows t [] (c ∷ cs) are = absurd are
candidates_kept framework rows t (f ∷ fs) (c ∷ cs) are = (
  record { eligibility = are.0.eligibility; place = kept_place framework rows t f c.place are.0.place },
  candidates_kept framework rows t fs cs are.1,
)
