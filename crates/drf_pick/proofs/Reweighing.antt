-- Roles that have other weights.
use Rattle.std.proofs.Common.{◌≡◌, ℕ, Bool, true, false, cond, List, [], ◌∷◌, map, ◌||◌, Option, Some, None, option_map, refl, sym, ap, ◌∙◌}
use Rattle.std.specs.List.{AllByRecursion, find}
use Rattle.std.specs.Cmp.Lexicographic.{bytes_decides}
use Rattle.quantity.specs.Rows.{amount}
use Rattle.names_core.specs.Weights.{RoleWeight, weight_of}
use Rattle.drf_pick.specs.Shares.{RoleSum, Tally, all_weighed, is_role, reweighed}
use Rattle.drf_pick.specs.Least.{role_share, share_of_sum}
use Rattle.drf_pick.specs.Allocations.{Allocation, Client}
use Rattle.drf_pick.specs.Shown.{TallyShows, WeightsShow, is_known}
use Rattle.drf_pick.proofs.Shown.{is_one, known_found}

-- the same roles are known, and hold the same

pub known_reweighed : (ws : List RoleWeight) (role : List ℕ) (rs : List RoleSum) → is_known (map (reweighed ws) rs) role ≡ is_known rs role
known_reweighed ws role [] = refl
known_reweighed ws role (r ∷ rs) = ap (λ b. is_role role r || b) (known_reweighed ws role rs)

found_mapped : (ws : List RoleWeight) (role : List ℕ) (rs : List RoleSum) → find (is_role role) (map (reweighed ws) rs) ≡ option_map (reweighed ws) (find (is_role role) rs)
found_mapped ws role [] = refl
found_mapped ws role (r ∷ rs) = by (is_role role r) (found_mapped ws role rs)
  where
    by : (b : Bool) → find (is_role role) (map (reweighed ws) rs) ≡ option_map (reweighed ws) (find (is_role role) rs)
        → cond b (Some (reweighed ws r)) (find (is_role role) (map (reweighed ws) rs)) ≡ option_map (reweighed ws) (cond b (Some r) (find (is_role role) rs))
    by true ih = refl
    by false ih = ih

found_named : (role : List ℕ) (rs : List RoleSum) (r : RoleSum) → find (is_role role) rs ≡ Some r → r.role ≡ role
found_named role [] r e = absurd cc
found_named role (q ∷ rs) r e = by (is_role role q) refl e (found_named role rs r)
  where
    by : (b : Bool) → is_role role q ≡ b → cond b (Some q) (find (is_role role) rs) ≡ Some r → (find (is_role role) rs ≡ Some r → r.role ≡ role) → r.role ≡ role
    by true is h ih = let same : q ≡ r = cc in ap (λ (x : RoleSum). x.role) (sym same) ∙ (bytes_decides q.role role).0 is
    by false is h ih = ih h

pub tally_reweighed : (ws : List RoleWeight) (gs : List Allocation) (cs : List Client) (t : Tally) → TallyShows gs cs t → TallyShows gs cs (all_weighed ws t)
tally_reweighed ws gs cs t s = record {
  holders = s.holders;
  known = each cs s.known;
  roles = λ role known name. ap (amount name) (held role) ∙ s.roles role (sym (known_reweighed ws role t.roles) ∙ known) name;
}
  where
    each : (ds : List Client) → AllByRecursion (λ c. is_known t.roles c.role ≡ true) ds → AllByRecursion (λ c. is_known (map (reweighed ws) t.roles) c.role ≡ true) ds
    each [] k = tt
    each (d ∷ ds) k = (known_reweighed ws d.role t.roles ∙ k.0, each ds k.1)

    by : (o : Option RoleSum) → (share_of_sum (option_map (reweighed ws) o)).held ≡ (share_of_sum o).held
    by None = refl
    by (Some r) = refl

    held : (role : List ℕ) → (role_share (map (reweighed ws) t.roles) role).held ≡ (role_share t.roles role).held
    held role = ap (λ (o : Option RoleSum). (share_of_sum o).held) (found_mapped ws role t.roles) ∙ by (find (is_role role) t.roles)

pub weights_shown : (ws : List RoleWeight) (rs : List RoleSum) → WeightsShow ws (map (reweighed ws) rs)
weights_shown ws rs role known = ap (λ (o : Option RoleSum). (share_of_sum o).weight) (found_mapped ws role rs) ∙ by (find (is_role role) rs) refl (sym (known_found rs role) ∙ sym (known_reweighed ws role rs) ∙ known)
  where
    by : (o : Option RoleSum) → find (is_role role) rs ≡ o → is_one o ≡ true → (share_of_sum (option_map (reweighed ws) o)).weight ≡ weight_of ws role
    by None e n = absurd (let m : false ≡ true = n in cc)
    by (Some r) e n = ap (weight_of ws) (found_named role rs r e)
