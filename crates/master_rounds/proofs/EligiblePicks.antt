-- What is picked is what `pick` picks of the eligible clients.
use Rattle.std.proofs.Common.{◌≡◌, ℕ, Bool, true, false, cond, List, [], ◌∷◌, filter, Option, Some, None, option_map, refl, sym, ap, ◌∙◌, subst}
use Rattle.std.specs.List.{fold}
use Rattle.quantity.specs.declared.rows.Row.{Row}
use Rattle.messages.specs.declared.framework.Framework.{Framework}
use Rattle.cluster_model.specs.Rounds.{may_be_offered}
use Rattle.master_state.specs.LastRound.{client_of, clients_of}
use Rattle.drf_pick.specs.declared.holder.Client.{Client}
use Rattle.drf_pick.specs.Shares.{Tally}
use Rattle.drf_pick.specs.Least.{IsPick, better_client, comes_before}
use Rattle.drf_pick.proofs.Picks.{Sound}
use Rattle.drf_pick.proofs.Picked.{none_picked, some_picked}
use Rattle.master_rounds.specs.Picks.{better, better_eligible, eligible_clients, framework_holder, picked}

better_alike : (t : Tally) (best : Option Framework) (f : Framework) → option_map client_of (better t best f) ≡ better_client t (option_map client_of best) (client_of f)
better_alike t None f = refl
better_alike t (Some g) f = by (comes_before t (framework_holder t f) (framework_holder t g))
  where
    by : (b : Bool) → option_map client_of (cond b (Some f) (Some g)) ≡ cond b (Some (client_of f)) (Some (client_of g))
    by true = refl
    by false = refl

folds_alike : (now : ℕ) (agent : List ℕ) (free : List Row) (t : Tally) (fs : List Framework) (best : Option Framework)
    → option_map client_of (fold (better_eligible now agent free t) best fs) ≡ fold (better_client t) (option_map client_of best) (eligible_clients now agent free fs)
folds_alike now agent free t [] best = refl
folds_alike now agent free t (f ∷ fs) best = by (may_be_offered now agent free f) (λ o. folds_alike now agent free t fs o)
  where
    by : (b : Bool) → ((o : Option Framework) → option_map client_of (fold (better_eligible now agent free t) o fs) ≡ fold (better_client t) (option_map client_of o) (eligible_clients now agent free fs))
        → option_map client_of (fold (better_eligible now agent free t) (cond b (better t best f) best) fs)
        ≡ fold (better_client t) (option_map client_of best) (clients_of (cond b (f ∷ filter (may_be_offered now agent free) fs) (filter (may_be_offered now agent free) fs)))
    by true ih = ih (better t best f) ∙ ap (λ (o : Option Client). fold (better_client t) o (eligible_clients now agent free fs)) (better_alike t best f)
    by false ih = ih best

is_pick : (t : Tally) → Sound t → (cs : List Client) (o : Option Client) → fold (better_client t) None cs ≡ o → IsPick t cs (option_map (λ c. c.framework) o)
is_pick t sound cs None e = none_picked t cs e
is_pick t sound cs (Some client) e = some_picked t sound cs client e

named : (o : Option Framework) → option_map (λ c. c.framework) (option_map client_of o) ≡ option_map (λ f. f.id) o
named None = refl
named (Some f) = refl

pub picked_is : (now : ℕ) (agent : List ℕ) (free : List Row) (t : Tally) (fs : List Framework) → Sound t → IsPick t (eligible_clients now agent free fs) (picked now agent free t fs)
picked_is now agent free t fs sound =
    let best = fold (better_eligible now agent free t) None fs in
    subst (IsPick t (eligible_clients now agent free fs)) (named best) (is_pick t sound (eligible_clients now agent free fs) (option_map client_of best) (sym (folds_alike now agent free t fs None)))
