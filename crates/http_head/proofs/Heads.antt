-- Heads at the front of an input.
use Rattle.std.proofs.Common.{◌≡◌, ℕ, List, take, drop, ◌⊎◌, inl, inr, Err, sym, refl, subst}
use Rattle.httparse.specs.Grammar.{RequestHead}
use Rattle.http_head.specs.declared.cut.Place.TheVariants.{Front}
use Rattle.http_head.specs.declared.fault.RequestFault.{RequestFault}
use Rattle.http_head.specs.declared.fault.RequestFault.TheVariants.{BadHead}
use Rattle.http_head.specs.Heads.{IsHead, IsNoHead, head_check}
use Rattle.http_head.specs.Requests.{HasPart, HasHead, RefusesHead, unparsed, unfit}

pub head_at : (zs input rest : List ℕ) (n : ℕ) (h : RequestHead) → zs ≡ input → HasPart Front zs (take n zs) (drop n zs) → IsHead (take n zs) h → rest ≡ drop n zs
    → HasHead input (take n zs) h rest
head_at zs input rest n h same part is rest_is = record {
  part = subst (λ (t : List ℕ). HasPart Front t (take n zs) rest) same (subst (λ (t : List ℕ). HasPart Front zs (take n zs) t) (sym rest_is) part);
  is = is;
}

pub refused_at : (zs input : List ℕ) (ended : Type 0) (n : ℕ) (fault : RequestFault) → zs ≡ input → HasPart Front zs (take n zs) (drop n zs)
    → ((fault ≡ BadHead) × IsNoHead (take n zs)) ⊎ ((h : RequestHead) × IsHead (take n zs) h × (head_check h ≡ Err fault)) → RefusesHead input ended fault
refused_at zs input ended n fault same part (inl w) =
    unparsed w.0 (take n zs) (drop n zs) (subst (λ (t : List ℕ). HasPart Front t (take n zs) (drop n zs)) same part) w.1
refused_at zs input ended n fault same part (inr w) =
    unfit (take n zs) w.0 (drop n zs) (head_at zs input (drop n zs) n w.0 same part w.1 refl) w.2
