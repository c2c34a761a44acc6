-- The framework that the model picks is served no later than each other eligible one.
use Rattle.std.proofs.Common.{◌≡◌, ℕ, Bool, true, false, not, cond, List, [], ◌∷◌, map, filter, Option, Some, None, MatchBool, refl, sym, ap, ◌∙◌, subst, bytes_eq, inl, inr}
use Rattle.names_core.specs.Ids.{Numbered, before}
use Rattle.quantity.specs.declared.rows.Row.{Row}
use Rattle.quantity.specs.Laws.{SameAmounts}
use Rattle.messages.specs.declared.framework.Framework.{Framework}
use Rattle.names_core.specs.Weights.{RoleWeight}
use Rattle.cluster_model.specs.Ids.{bytes_before}
use Rattle.cluster_model.specs.Events.{MadeOffer}
use Rattle.cluster_model.specs.Masters.{Master}
use Rattle.cluster_model.specs.Rounds as rounds
use Rattle.cluster_model.specs.Rounds.{Client, Share, clients_of, is_eligible, may_be_offered, share, share_of, totals_of}
use Rattle.master_state.specs.Frameworks.{are_ordered}
use Rattle.master_state.specs.LastRound as frameworks
use Rattle.master_state.specs.LastRound.{client_of}
use Rattle.drf_pick.specs.declared.holder.Client as drf
use Rattle.drf_pick.specs.Shares.{Tally}
use Rattle.drf_pick.specs.Least.{IsPick, StandsBy, StandsLeast, client_holder, held_by, role_share}
use Rattle.drf_pick.specs.Laws.{ArePositive, SameShare}
use Rattle.drf_pick.specs.Orders.{Among}
use Rattle.drf_pick.proofs.Standing.{amounts_decide}
use Rattle.master_rounds.specs.Picks.{eligible_clients, framework_holder, picked}
use Rattle.master_rounds.specs.Served.{GoesTo, ServedFirst}
use Rattle.master_rounds.proofs.Picking.{Shown, client, picks_alike, role_alike, share_alike, shown_of, shown_round}
use Rattle.master_rounds.proofs.EligiblePicks.{picked_is}
use Rattle.master_rounds.specs.Laws.{GoesToPicked}

stands_alike : (t : List Row) (a b : Share) (t' : List Row) (a' b' : Share) (tie : Bool) → ArePositive t → ArePositive t' → SameAmounts t t' → SameShare a a' → SameShare b b' → StandsBy t a b tie → StandsBy t' a' b' tie
stands_alike t a b t' a' b' tie p p' et ea eb s = record {
  at_most = sym (amounts_decide t a b t' a' b' p p' et ea eb) ∙ s.at_most;
  tied = λ e. s.tied (amounts_decide t b a t' b' a' p p' et eb ea ∙ e);
}

served_alike : (ws : List RoleWeight) (m : Master) (made : List MadeOffer) (t : Tally) (f g : Framework) → Shown ws m made t → are_ordered m.registers.frameworks ≡ true → Among f m.registers.frameworks → Among g m.registers.frameworks
    → StandsLeast t (client_holder t (client_of f)) (client_holder t (client_of g)) → ServedFirst ws m made (client m f) (client m g)
served_alike ws m made t f g s ordered i j = by (bytes_eq g.role f.role)
  where
    by : (b : Bool) → MatchBool b (StandsBy t.totals (share (held_by t f.id) 1) (share (held_by t g.id) 1) (not (before g.id f.id))) (StandsBy t.totals (role_share t.roles f.role) (role_share t.roles g.role) (not (bytes_before g.role f.role)))
        → MatchBool b (StandsBy (totals_of m) (share_of made (client m f)) (share_of made (client m g)) (not (before g.id f.id)))
        (StandsBy (totals_of m) (rounds.role_share ws (clients_of m) made f.role) (rounds.role_share ws (clients_of m) made g.role) (not (bytes_before g.role f.role)))
    by true = stands_alike t.totals (share (held_by t f.id) 1) (share (held_by t g.id) 1) (totals_of m) (share_of made (client m f)) (share_of made (client m g)) (not (before g.id f.id)) s.positive s.owned s.totals
        (share_alike m made (framework_holder t f) f (shown_of ws m made t f s ordered i)) (share_alike m made (framework_holder t g) g (shown_of ws m made t g s ordered j))
    by false = stands_alike t.totals (role_share t.roles f.role) (role_share t.roles g.role) (totals_of m) (rounds.role_share ws (clients_of m) made f.role) (rounds.role_share ws (clients_of m) made g.role) (not (bytes_before g.role f.role)) s.positive s.owned s.totals
        (role_alike ws m made t f s i) (role_alike ws m made t g s j)

-- eligible clients are those of eligible frameworks

record Eligible (now : ℕ) (agent : List ℕ) (free : List Row) (fs : List Framework) (c : drf.Client) : Type 0 where
  pub framework : Framework
  pub there : Among framework fs
  pub can : may_be_offered now agent free framework ≡ true
  pub is : c ≡ client_of framework

further : (now : ℕ) (agent : List ℕ) (free : List Row) (f : Framework) (fs : List Framework) (c : drf.Client) → Eligible now agent free fs c → Eligible now agent free (f ∷ fs) c
further now agent free f fs c e = record { framework = e.framework; there = inr e.there; can = e.can; is = e.is }

eligible_of : (now : ℕ) (agent : List ℕ) (free : List Row) (fs : List Framework) (c : drf.Client) → Among c (eligible_clients now agent free fs) → Eligible now agent free fs c
eligible_of now agent free [] c i = absurd i
eligible_of now agent free (f ∷ fs) c i = by (may_be_offered now agent free f) refl i (λ j. eligible_of now agent free fs c j)
  where
    rest : List Framework
    rest = filter (may_be_offered now agent free) fs

    by : (b : Bool) → may_be_offered now agent free f ≡ b → Among c (frameworks.clients_of (cond b (f ∷ rest) rest)) → (Among c (frameworks.clients_of rest) → Eligible now agent free fs c) → Eligible now agent free (f ∷ fs) c
    by true e (inl is) ih = record { framework = f; there = inl refl; can = e; is = is }
    by true e (inr j) ih = further now agent free f fs c (ih j)
    by false e j ih = further now agent free f fs c (ih j)

among_eligible : (now : ℕ) (agent : List ℕ) (free : List Row) (fs : List Framework) (f : Framework) → Among f fs → may_be_offered now agent free f ≡ true → Among (client_of f) (eligible_clients now agent free fs)
among_eligible now agent free [] f i can = absurd i
among_eligible now agent free (g ∷ fs) f i can = by (may_be_offered now agent free g) refl i (λ j. among_eligible now agent free fs f j can)
  where
    rest : List Framework
    rest = filter (may_be_offered now agent free) fs

    by : (b : Bool) → may_be_offered now agent free g ≡ b → Among f (g ∷ fs) → (Among f fs → Among (client_of f) (frameworks.clients_of rest)) → Among (client_of f) (frameworks.clients_of (cond b (g ∷ rest) rest))
    by true e (inl is) ih = inl (ap client_of is)
    by true e (inr j) ih = inr (ih j)
    by false e (inl is) ih = absurd (let n : true ≡ false = sym can ∙ ap (may_be_offered now agent free) is ∙ e in cc)
    by false e (inr j) ih = ih j

record Of (m : Master) (fs : List Framework) (d : Client) : Type 0 where
  pub framework : Framework
  pub there : Among framework fs
  pub is : d ≡ client m framework

client_from : (m : Master) (fs : List Framework) (d : Client) → Among d (map (client m) fs) → Of m fs d
client_from m [] d i = absurd i
client_from m (f ∷ fs) d (inl e) = record { framework = f; there = inl refl; is = e }
client_from m (f ∷ fs) d (inr i) = let o = client_from m fs d i in record { framework = o.framework; there = inr o.there; is = o.is }

among_mapped : (m : Master) (fs : List Framework) (f : Framework) → Among f fs → Among (client m f) (map (client m) fs)
among_mapped m [] f i = absurd i
among_mapped m (g ∷ fs) f (inl e) = inl (ap (client m) e)
among_mapped m (g ∷ fs) f (inr i) = inr (among_mapped m fs f i)

none_among : (cs : List drf.Client) (c : drf.Client) → cs ≡ [] → Among c cs → ⊥
none_among [] c e i = i
none_among (d ∷ cs) c e i = absurd cc

pub goes_to : (ws : List RoleWeight) (m : Master) (made : List MadeOffer) (t : Tally) (agent : List ℕ) (free : List Row) → Shown ws m made t → are_ordered m.registers.frameworks ≡ true → (o : Option Numbered)
    → IsPick t (eligible_clients m.registers.now agent free m.registers.frameworks) o → GoesTo ws m made agent free o
goes_to ws m made t agent free s ordered None none = λ d i. by d (client_from m m.registers.frameworks d i)
  where
    not_so : (f : Framework) → Among f m.registers.frameworks → (b : Bool) → may_be_offered m.registers.now agent free f ≡ b → may_be_offered m.registers.now agent free f ≡ false
    not_so f j true e = absurd (none_among (eligible_clients m.registers.now agent free m.registers.frameworks) (client_of f) none (among_eligible m.registers.now agent free m.registers.frameworks f j e))
    not_so f j false e = e

    by : (d : Client) → Of m m.registers.frameworks d → is_eligible m.registers.now agent free d ≡ false
    by d o = ap (λ (c : Client). may_be_offered m.registers.now agent free c.framework) o.is ∙ not_so o.framework o.there (may_be_offered m.registers.now agent free o.framework) refl
goes_to ws m made t agent free s ordered (Some id) p = record {
  client = client m e.framework;
  there = among_mapped m m.registers.frameworks e.framework e.there;
  named = ap (λ (c : drf.Client). c.framework) (sym e.is) ∙ p.named;
  eligible = e.can;
  first = λ d i can. by d (client_from m m.registers.frameworks d i) can;
}
  where
    e : Eligible m.registers.now agent free m.registers.frameworks p.client
    e = eligible_of m.registers.now agent free m.registers.frameworks p.client p.there

    by : (d : Client) → Of m m.registers.frameworks d → is_eligible m.registers.now agent free d ≡ true → ServedFirst ws m made (client m e.framework) d
    by d o can =
        let its : may_be_offered m.registers.now agent free o.framework ≡ true = ap (λ (c : Client). may_be_offered m.registers.now agent free c.framework) (sym o.is) ∙ can in
        let least = p.least (client_of o.framework) (among_eligible m.registers.now agent free m.registers.frameworks o.framework o.there its) in
        subst (ServedFirst ws m made (client m e.framework)) (sym o.is)
        (served_alike ws m made t e.framework o.framework s ordered e.there o.there (subst (λ (c : drf.Client). StandsLeast t (client_holder t c) (client_holder t (client_of o.framework))) e.is least))

pub goes_to_picked : GoesToPicked
goes_to_picked ws m made t agent free can show =
    let shown : Shown ws m made t = shown_round ws m made t can.rows show in
    subst (GoesTo ws m made agent free) (picks_alike ws m made t agent free can show)
    (goes_to ws m made t agent free shown can.ordered (picked m.registers.now agent free t m.registers.frameworks) (picked_is m.registers.now agent free t m.registers.frameworks (shown.positive, show.weighed)))
