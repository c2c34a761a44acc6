-- What DECLINE makes of what a master holds.
use Rattle.std.proofs.Common.{◌≡◌, ℕ, Bool, true, false, not, ◌&&◌, ◌||◌, cond, List, [], ◌∷◌, ◌++◌, map, filter, flat_map, fold, Option, Some, None, Ok, Err, refl, sym, ap, ◌∙◌, subst}
use Rattle.names_core.specs.Ids.{Numbered, same}
use Rattle.messages.specs.declared.call.Call.TheVariants as calls
use Rattle.messages.specs.declared.task.Offer.{Offer}
use Rattle.messages.specs.declared.framework.Framework.{Framework}
use Rattle.messages.specs.declared.refusal.MasterRefusal.{MasterRefusal}
use Rattle.cluster_model.specs.Ids.{each_once, is_among}
use Rattle.cluster_model.specs.Events.{MadeOffer}
use Rattle.cluster_model.specs.Sides.{Side, is_named}
use Rattle.cluster_model.specs.Masters.{MasterEffect, Master, Moved, add_filter, moving, with_framework, withdraws}
use Rattle.cluster_model.specs.Calls.{by_framework, call_effect, on_decline, own_offers, own_offers_on}
use Rattle.master_state.specs.Frameworks.{are_ordered, changed}
use Rattle.master_state.proofs.Ordered.{put_changed}
use Rattle.master_agents.specs.Configs as configs
use Rattle.master_agents.specs.Joined.{side_names}
use Rattle.master_agents.specs.Looks.{withdrawing}
use Rattle.master_agents.specs.Own.{Holding, holding}
use Rattle.master_state.specs.declared.state.State.{State}
use Rattle.master_state.specs.States.{without_offers}
use Rattle.master_state.specs.Works.{Work, admission, done, master_of, registers_of, run_of, work_of}
use Rattle.master_state.proofs.Admissions.{Admitted, admits, refuses as refuses_call}
use Rattle.master_state.proofs.Moves.{all_withdrawn, moved_so}
use Rattle.master_calls.specs.Declines.{Refuser, is_own, refuses, refuses_each, refuses_id, refuses_if_own, refuses_on}
use Rattle.std.proofs.lemmas.List.{append-nil}

-- a call that isn't admitted is refused
pub turned_down : (s : State) (given : Option Numbered) (framework : Numbered) (refusal : MasterRefusal) (doing : Framework → MasterEffect) → admission (master_of s) given framework ≡ Err refusal
    → ((by_framework (master_of s) given framework doing).refusal ≡ Some refusal) × (s ≡ s)
turned_down s given framework refusal doing e = (ap (λ d. d.refusal) (refuses_call (master_of s) given framework refusal e doing), refl)

-- lists

fold_join : {A B : Type 0} (f : A → B → A) (a : A) (xs ys : List B) → fold f a (xs ++ ys) ≡ fold f (fold f a xs) ys
fold_join f a [] ys = refl
fold_join f a (x ∷ xs) ys = fold_join f (f a x) xs ys

filter_twice : {A : Type 0} (p q r : A → Bool) → ((x : A) → (q x && p x) ≡ r x) → (xs : List A) → filter p (filter q xs) ≡ filter r xs
filter_twice p q r same_test [] = refl
filter_twice p q r same_test (x ∷ xs) = by (q x) (p x) (r x) refl (same_test x) (filter_twice p q r same_test xs)
  where
    by : (a b c : Bool) → p x ≡ b → (a && b) ≡ c → filter p (filter q xs) ≡ filter r xs → filter p (cond a (x ∷ filter q xs) (filter q xs)) ≡ cond c (x ∷ filter r xs) (filter r xs)
    by true true true f h ih = rw f (ap (λ ys. x ∷ ys) ih)
    by true true false f h ih = absurd cc
    by true false true f h ih = absurd cc
    by true false false f h ih = rw f ih
    by false b true f h ih = absurd cc
    by false b false f h ih = ih

-- offers that are refused, one after the other

abbrev pub made : List ℕ → Offer → MadeOffer
made agent o = record { agent = agent; offer = o }

abbrev pub refusing : Refuser → List Framework → MadeOffer → List Framework
refusing by fs m = refuses by m.agent m.offer.resources fs

-- the own offers of an id on an agent
abbrev pub own_on : Numbered → Numbered → Holding → List MadeOffer
own_on framework id h = map (made h.agent) (filter (is_own framework id) h.offers)

own_refused : (by : Refuser) (id : Numbered) (agent : List ℕ) (os : List Offer) (fs : List Framework)
    → fold (refuses_if_own by id agent) fs os ≡ fold (refusing by) fs (map (made agent) (filter (is_own by.framework id) os))
own_refused by id agent [] fs = refl
own_refused by id agent (o ∷ os) fs = cases (is_own by.framework id o) (own_refused by id agent os fs) (own_refused by id agent os (refuses by agent o.resources fs))
  where
    own : List Offer
    own = filter (is_own by.framework id) os

    cases : (b : Bool) → fold (refuses_if_own by id agent) fs os ≡ fold (refusing by) fs (map (made agent) own)
        → fold (refuses_if_own by id agent) (refuses by agent o.resources fs) os ≡ fold (refusing by) (refuses by agent o.resources fs) (map (made agent) own)
        → fold (refuses_if_own by id agent) (cond b (refuses by agent o.resources fs) fs) os ≡ fold (refusing by) fs (map (made agent) (cond b (o ∷ own) own))
    cases true without with = with
    cases false without with = without

id_refused : (by : Refuser) (id : Numbered) (hs : List Holding) (fs : List Framework) → refuses_id by hs fs id ≡ fold (refusing by) fs (flat_map (own_on by.framework id) hs)
id_refused by id [] fs = refl
id_refused by id (h ∷ hs) fs =
    id_refused by id hs (refuses_on by id fs h)
    ∙ ap (λ gs. fold (refusing by) gs (flat_map (own_on by.framework id) hs)) (own_refused by id h.agent h.offers fs)
    ∙ sym (fold_join (refusing by) fs (own_on by.framework id h) (flat_map (own_on by.framework id) hs))

-- ids that weren't seen before

abbrev unseen : List Numbered → List Numbered → List Numbered
unseen seen ids = filter (λ o. not (is_among seen o)) ids

among_more : (seen : List Numbered) (id o : Numbered) → (not (same id o) && not (is_among seen o)) ≡ not (is_among (seen ++ id ∷ []) o)
among_more [] id o = by (same id o)
  where
    by : (a : Bool) → (not a && true) ≡ not (a || false)
    by true = refl
    by false = refl
among_more (s ∷ seen) id o = by (same s o) (same id o) (is_among seen o) (is_among (seen ++ id ∷ []) o) (among_more seen id o)
  where
    by : (a b c d : Bool) → (not b && not c) ≡ not d → (not b && not (a || c)) ≡ not (a || d)
    by true true c d e = refl
    by true false c d e = refl
    by false b c d e = e

unseen_more : (seen : List Numbered) (id : Numbered) (ids : List Numbered) → unseen seen (filter (λ o. not (same id o)) ids) ≡ unseen (seen ++ id ∷ []) ids
unseen_more seen id ids = filter_twice (λ o. not (is_among seen o)) (λ o. not (same id o)) (λ o. not (is_among (seen ++ id ∷ []) o)) (among_more seen id) ids

abbrev own_of : Refuser → List Holding → Numbered → List MadeOffer
own_of by hs id = flat_map (own_on by.framework id) hs

each_refused : (by : Refuser) (hs : List Holding) (ids seen : List Numbered) (fs : List Framework)
    → refuses_each by hs fs seen ids ≡ fold (refusing by) fs (flat_map (own_of by hs) (unseen seen (each_once ids)))
each_refused by hs [] seen fs = refl
each_refused by hs (id ∷ ids) seen fs = cases (is_among seen id) (each_refused by hs ids (seen ++ id ∷ []) fs) (each_refused by hs ids (seen ++ id ∷ []) (refuses_id by hs fs id))
  where
    rest : List Numbered
    rest = unseen seen (filter (λ o. not (same id o)) (each_once ids))

    rest_is : rest ≡ unseen (seen ++ id ∷ []) (each_once ids)
    rest_is = unseen_more seen id (each_once ids)

    cases : (b : Bool) → refuses_each by hs fs (seen ++ id ∷ []) ids ≡ fold (refusing by) fs (flat_map (own_of by hs) (unseen (seen ++ id ∷ []) (each_once ids)))
        → refuses_each by hs (refuses_id by hs fs id) (seen ++ id ∷ []) ids ≡ fold (refusing by) (refuses_id by hs fs id) (flat_map (own_of by hs) (unseen (seen ++ id ∷ []) (each_once ids)))
        → refuses_each by hs (cond b fs (refuses_id by hs fs id)) (seen ++ id ∷ []) ids ≡ fold (refusing by) fs (flat_map (own_of by hs) (cond (not b) (id ∷ rest) rest))
    cases true seen_before new = seen_before ∙ ap (λ is. fold (refusing by) fs (flat_map (own_of by hs) is)) (sym rest_is)
    cases false seen_before new =
        new ∙ ap (λ gs. fold (refusing by) gs (flat_map (own_of by hs) (unseen (seen ++ id ∷ []) (each_once ids)))) (id_refused by id hs fs)
        ∙ ap (λ is. fold (refusing by) (fold (refusing by) fs (own_of by hs id)) (flat_map (own_of by hs) is)) (sym rest_is)
        ∙ sym (fold_join (refusing by) fs (own_of by hs id) (flat_map (own_of by hs) rest))

unseen_none : (ids : List Numbered) → unseen [] ids ≡ ids
unseen_none [] = refl
unseen_none (id ∷ ids) = ap (λ is. id ∷ is) (unseen_none ids)

-- the offers are those of the model

own_is : (framework id : Numbered) (ss : List Side) → flat_map (own_on framework id) (map holding ss) ≡ flat_map (own_offers_on framework id) ss
own_is framework id [] = refl
own_is framework id (s ∷ ss) = ap (λ os. own_offers_on framework id s ++ os) (own_is framework id ss)

own_all : (by : Refuser) (m : Master) (ids : List Numbered) → flat_map (own_of by (map holding m.sides)) ids ≡ flat_map (own_offers m by.framework) ids
own_all by m [] = refl
own_all by m (id ∷ ids) = rw (own_is by.framework id m.sides, own_all by m ids) refl

-- one framework's filters change

abbrev filters_after : Refuser → List MadeOffer → Framework → Framework
filters_after by ms f = record f { filters = fold (λ xs made. add_filter by.moment by.seconds xs made.agent made.offer.resources) f.filters ms }

changed_twice : (g h : Framework → Framework) (id : Numbered) → ((f : Framework) → (h f).id ≡ f.id) → (fs : List Framework) → map (changed g id) (map (changed h id) fs) ≡ map (changed (λ f. g (h f)) id) fs
changed_twice g h id keeps [] = refl
changed_twice g h id keeps (f ∷ fs) = by (same f.id id) refl (changed_twice g h id keeps fs)
  where
    by : (b : Bool) → same f.id id ≡ b → map (changed g id) (map (changed h id) fs) ≡ map (changed (λ x. g (h x)) id) fs
        → changed g id (cond b (h f) f) ∷ map (changed g id) (map (changed h id) fs) ≡ cond b (g (h f)) f ∷ map (changed (λ x. g (h x)) id) fs
    by true e ih = let e2 : same (h f).id id ≡ true = ap (λ i. same i id) (keeps f) ∙ e in rw (e2, ih) refl
    by false e ih = rw (e, ih) refl

unchanged : (id : Numbered) (fs : List Framework) → fs ≡ map (changed (λ f. f) id) fs
unchanged id [] = refl
unchanged id (f ∷ fs) = by (same f.id id) (unchanged id fs)
  where
    by : (b : Bool) → fs ≡ map (changed (λ x. x) id) fs → f ∷ fs ≡ cond b f f ∷ map (changed (λ x. x) id) fs
    by true ih = ap (λ gs. f ∷ gs) ih
    by false ih = ap (λ gs. f ∷ gs) ih

all_refused : (by : Refuser) (ms : List MadeOffer) (fs : List Framework) → fold (refusing by) fs ms ≡ map (changed (filters_after by ms) by.framework) fs
all_refused by [] fs = unchanged by.framework fs
all_refused by (m ∷ ms) fs =
    all_refused by ms (refusing by fs m)
    ∙ changed_twice (filters_after by ms) (λ f. record f { filters = add_filter by.moment by.seconds f.filters m.agent m.offer.resources }) by.framework (λ f. refl) fs

pub filters_so : (by : Refuser) (m : Master) (hs : List Holding) (ids : List Numbered) (fs : List Framework) → hs ≡ map holding m.sides
    → refuses_each by hs fs [] ids ≡ map (changed (filters_after by (flat_map (own_offers m by.framework) (each_once ids))) by.framework) fs
filters_so by m hs ids fs e =
    ap (λ gs. refuses_each by gs fs [] ids) e
    ∙ each_refused by (map holding m.sides) ids [] fs
    ∙ ap (λ is. fold (refusing by) fs (flat_map (own_of by (map holding m.sides)) is)) (unseen_none (each_once ids))
    ∙ ap (fold (refusing by) fs) (own_all by m (each_once ids))
    ∙ all_refused by (flat_map (own_offers m by.framework) (each_once ids)) fs

-- DECLINE

abbrev pub with_frameworks : List Framework → State → State
with_frameworks fs s = record s { frameworks = fs }

abbrev declined_work : State → List Framework → Moved → Work
declined_work s fs x = record { moved = x; registers = record (registers_of s) { frameworks = fs }; events = s.outs.events; opens = s.outs.opened; closes = s.outs.closed }

pub declines_so : (s : State) (given : Option Numbered) (framework stream : Numbered) (ids : List Numbered) (seconds : ℕ) (hs : List Holding) → admission (master_of s) given framework ≡ Ok stream
    → are_ordered s.frameworks ≡ true → configs.are_ordered (side_names s.sides) ≡ true → hs ≡ map holding s.sides
    → ((call_effect (master_of s) given (calls.Decline framework ids seconds)).refusal ≡ None)
    × (work_of (without_offers (is_named framework ids) (with_frameworks (refuses_each (record { framework = framework; moment = s.moment; seconds = seconds }) hs s.frameworks [] ids) s)) ≡ done (call_effect (master_of s) given (calls.Decline framework ids seconds)) (work_of s))
declines_so s given framework stream ids seconds hs e ordered names is =
    subst (λ d. (d.refusal ≡ None) × (after ≡ done d (work_of s))) does (refl, same_work)
  where
    m : Master
    m = master_of s

    a : Admitted m given framework stream
    a = admits m given framework stream e

    by : Refuser
    by = record { framework = framework; moment = s.moment; seconds = seconds }

    after : Work
    after = work_of (without_offers (is_named framework ids) (with_frameworks (refuses_each by hs s.frameworks [] ids) s))

    change : Framework → Framework
    change = filters_after by (flat_map (own_offers m framework) (each_once ids))

    doing : MasterEffect
    doing = record (moving m (withdraws (is_named framework ids) m)) { registers = with_framework (registers_of s) (change a.caller) }

    does : doing ≡ call_effect m given (calls.Decline framework ids seconds)
    does = sym (a.does (on_decline m ids seconds)
        ∙ ap (λ i. record (moving m (withdraws (is_named i ids) m)) { registers = with_framework (registers_of s) (filters_after by (flat_map (own_offers m i) (each_once ids)) a.caller) }) a.id)

    table : refuses_each by hs s.frameworks [] ids ≡ (with_framework (registers_of s) (change a.caller)).frameworks
    table = filters_so by m hs ids s.frameworks is ∙ sym (put_changed change s.frameworks framework a.caller (λ f. refl) ordered a.known)

    same_work : after ≡ done doing (work_of s)
    same_work =
        ap (λ fs. declined_work s fs (moved_so (run_of s) (map (withdrawing (is_named framework ids)) s.sides) s.outs.mails)) table
        ∙ ap (declined_work s (with_framework (registers_of s) (change a.caller)).frameworks) (sym (all_withdrawn (is_named framework ids) s.sides (run_of s) s.outs.mails names))
        ∙ rw (append-nil s.outs.events, append-nil s.outs.opened, append-nil s.outs.closed) refl
