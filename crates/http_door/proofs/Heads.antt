-- An input begins with one head, or is refused for one fault, or is over.
use Rattle.std.proofs.Common.{◌≡◌, ℕ, List, [], ◌⊎◌, inl, inr, Result, Ok, Err, sym, ap, ◌∙◌, subst, arith}
use Rattle.httparse.specs.Grammar.{RequestHead, ReadsRequest}
use Rattle.httparse.proofs.GrammarLemmas.{request_unique}
use Rattle.http_head.specs.declared.cut.Place.TheVariants.{Front}
use Rattle.http_head.specs.declared.fault.RequestFault.{RequestFault}
use Rattle.http_head.specs.declared.fault.RequestFault.TheVariants.{BadHead}
use Rattle.http_head.specs.declared.plan.Plan.{Plan}
use Rattle.http_head.specs.Heads.{IsHead, head_check}
use Rattle.http_head.specs.Requests.{HasHead, RefusesHead, overlong, unended, unparsed, unfit, IsOver}
use Rattle.http_door.proofs.Parts.{part_one, part_within, part_ended}

pub head_one : (input text : List ℕ) (h : RequestHead) (rest t : List ℕ) (k : RequestHead) (r : List ℕ) → HasHead input text h rest → HasHead input t k r
    → (h ≡ k) × (rest ≡ r)
head_one input text h rest t k r one other =
    let parts = part_one Front input text rest t r one.part other.part in
    let heads = request_unique t h k [] [] (subst (λ (x : List ℕ). ReadsRequest x h []) parts.0 one.is.reads) other.is.reads in
    (heads.0, parts.1)

abbrev NoHead : List ℕ → Type 0
NoHead input = (text : List ℕ) (h : RequestHead) (rest : List ℕ) → HasHead input text h rest → ⊥

-- a head that parses and fails the check
record Unfit (input : List ℕ) (fault : RequestFault) : Type 0 where
  text : List ℕ
  head : RequestHead
  rest : List ℕ
  at : HasHead input text head rest
  check : head_check head ≡ Err fault

cause : (input : List ℕ) (ended : Type 0) (fault : RequestFault) → RefusesHead input ended fault → ((fault ≡ BadHead) × NoHead input) ⊎ Unfit input fault
cause input ended fault (overlong is over) = inl (is, λ text h rest has. part_within Front input text rest has.part over)
cause input ended fault (unended is ends filled) = inl (is, λ text h rest has. part_ended Front input text rest ended has.part ends)
cause input ended fault (unparsed is t r part none) =
    inl (is, λ text h rest has. none h (subst (λ (x : List ℕ). IsHead x h) (part_one Front input text rest t r has.part part).0 has.is))
cause input ended fault (unfit text h rest has check) = inr (record { text = text; head = h; rest = rest; at = has; check = check })

pub planned_not_refused : (input text : List ℕ) (h : RequestHead) (rest : List ℕ) (plan : Plan) (ended : Type 0) (fault : RequestFault)
    → HasHead input text h rest → head_check h ≡ Ok plan → RefusesHead input ended fault → ⊥
planned_not_refused input text h rest plan ended fault has check refuses = by_cause (cause input ended fault refuses)
  where
    by_cause : ((fault ≡ BadHead) × NoHead input) ⊎ Unfit input fault → ⊥
    by_cause (inl bad) = bad.1 text h rest has
    by_cause (inr fails) =
        let same = head_one input text h rest fails.text fails.head fails.rest has fails.at in
        let both : Ok plan ≡ Err fault = sym check ∙ ap head_check same.0 ∙ fails.check in
        absurd cc

pub refused_head_one : (input : List ℕ) (ended end : Type 0) (fault other : RequestFault) → RefusesHead input ended fault → RefusesHead input end other → fault ≡ other
refused_head_one input ended end fault other x y = by_causes (cause input ended fault x) (cause input end other y)
  where
    by_causes : ((fault ≡ BadHead) × NoHead input) ⊎ Unfit input fault → ((other ≡ BadHead) × NoHead input) ⊎ Unfit input other → fault ≡ other
    by_causes (inl a) (inl b) = a.0 ∙ sym b.0
    by_causes (inl a) (inr b) = absurd (a.1 b.text b.head b.rest b.at)
    by_causes (inr a) (inl b) = absurd (b.1 a.text a.head a.rest a.at)
    by_causes (inr a) (inr b) =
        let same = head_one input a.text a.head a.rest b.text b.head b.rest a.at b.at in
        let both : ◌≡◌ {A = Result Plan RequestFault} (Err fault) (Err other) = sym a.check ∙ ap head_check same.0 ∙ b.check in
        cc

pub over_has_no_head : (input text : List ℕ) (h : RequestHead) (rest : List ℕ) (ended : Type 0) → HasHead input text h rest → IsOver input ended → ⊥
over_has_no_head input text h rest ended has is_over = part_ended Front input text rest ended has.part is_over.unended

pub over_not_refused : (input : List ℕ) (ended end : Type 0) (fault : RequestFault) → IsOver input ended → RefusesHead input end fault → ⊥
over_not_refused input ended end fault is_over (overlong is long) = absurd (omega (arith, is_over.unended.within, long.more))
over_not_refused input ended end fault is_over (unended is ends filled) = filled is_over.blank
over_not_refused input ended end fault is_over (unparsed is text rest part none) = part_ended Front input text rest ended part is_over.unended
over_not_refused input ended end fault is_over (unfit text h rest has check) = part_ended Front input text rest ended has.part is_over.unended
