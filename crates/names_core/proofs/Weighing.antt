-- Weights by the entries of a map.
use Rattle.std.proofs.Common.{◌≡◌, ℕ, Bool, true, false, cond, List, [], ◌∷◌, Option, Some, String, string_bytes, refl, ap, arith}
use Rattle.std.specs.Option.{unwrap_or}
use Rattle.std.specs.Map.{lookup}
use Rattle.std.specs.BTreeMap.{insert_entry, is_at}
use Rattle.std.specs.Ordering.{is_eq, nat_cmp, match_ordering}
use Rattle.std.specs.declared.cmp.Ordering.{Ordering}
use Rattle.std.specs.declared.cmp.Ordering.TheVariants.{Less, Equal, Greater}
use Rattle.std.specs.Prelude.{bytes_eq}
use Rattle.std.specs.Cmp.Lexicographic.{slice_cmp, texts_ties}
use Rattle.names_core.specs.Weights.{AreWeights, IsWeight, RoleWeight, role_weight, weight_of, weights_in, with_weight}

module _ {Y : Type 0} where
  -- the value of the entry that a role's name finds, or 1, is the role's weight
  pub looked_up : (es : List (String Y × ℕ)) (role : List ℕ) → unwrap_or (lookup (is_at (λ (k : String Y). slice_cmp nat_cmp role (string_bytes k))) es) 1 ≡ weight_of (weights_in es) role
  looked_up [] role = refl
  looked_up (e ∷ es) role = rw (texts_ties role (string_bytes e.0)) (by_case (is_eq (slice_cmp nat_cmp role (string_bytes e.0))) (looked_up es role))
    where
      rest : Option ℕ
      rest = lookup (is_at (λ (k : String Y). slice_cmp nat_cmp role (string_bytes k))) es

      by_case : (b : Bool) → unwrap_or rest 1 ≡ weight_of (weights_in es) role → unwrap_or (cond b (Some e.1) rest) 1 ≡ cond b e.1 (weight_of (weights_in es) role)
      by_case true behind = refl
      by_case false behind = behind

  abbrev pub entry_cmp : String Y → String Y → Ordering
  entry_cmp x y = slice_cmp nat_cmp (string_bytes x) (string_bytes y)

  -- an entry in its place is a weight in its place
  pub inserted : (es : List (String Y × ℕ)) (key : String Y) (weight : ℕ) → weights_in (insert_entry entry_cmp es key weight) ≡ with_weight (string_bytes key) weight (weights_in es)
  inserted [] key weight = refl
  inserted (e ∷ es) key weight = by_order (entry_cmp key e.0) (inserted es key weight)
    where
      by_order : (o : Ordering) → weights_in (insert_entry entry_cmp es key weight) ≡ with_weight (string_bytes key) weight (weights_in es)
          → weights_in (match_ordering o ((key, weight) ∷ e ∷ es) ((e.0, weight) ∷ es) (e ∷ insert_entry entry_cmp es key weight))
          ≡ match_ordering o (role_weight (string_bytes key) weight ∷ weights_in (e ∷ es)) (role_weight (string_bytes e.0) weight ∷ weights_in es) (role_weight (string_bytes e.0) e.1 ∷ with_weight (string_bytes key) weight (weights_in es))
      by_order Less behind = refl
      by_order Equal behind = refl
      by_order Greater behind = ap (λ ws. role_weight (string_bytes e.0) e.1 ∷ ws) behind

-- weights in the range stay so with one more of them
pub still_weights : (role : List ℕ) (weight : ℕ) (ws : List RoleWeight) → IsWeight weight → AreWeights ws → AreWeights (with_weight role weight ws)
still_weights role weight [] is are = (is, tt)
still_weights role weight (w ∷ ws) is are = by_order (slice_cmp nat_cmp role w.role) (still_weights role weight ws is are.1)
  where
    by_order : (o : Ordering) → AreWeights (with_weight role weight ws)
        → AreWeights (match_ordering o (role_weight role weight ∷ w ∷ ws) (role_weight w.role weight ∷ ws) (w ∷ with_weight role weight ws))
    by_order Less behind = (is, are)
    by_order Equal behind = (is, are.1)
    by_order Greater behind = (are.0, behind)

-- the weight of any role is in the range
pub in_range : (ws : List RoleWeight) (role : List ℕ) → AreWeights ws → IsWeight (weight_of ws role)
in_range [] role are = (omega arith, omega arith)
in_range (w ∷ ws) role are = by_case (bytes_eq role w.role) (in_range ws role are.1)
  where
    by_case : (b : Bool) → IsWeight (weight_of ws role) → IsWeight (cond b w.weight (weight_of ws role))
    by_case true behind = are.0
    by_case false behind = behind
