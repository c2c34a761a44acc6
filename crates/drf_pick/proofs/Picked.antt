-- What is picked stands least of the clients.
use Rattle.std.proofs.Common.{◌≡◌, Bool, true, false, not, ◌&&◌, ◌||◌, cond, List, [], ◌∷◌, map, Option, Some, None, refl, sym, ap, ◌∙◌, subst, inl, inr, ◌⊎◌}
use Rattle.std.specs.Prelude.{MatchBool, MatchOption, bytes_eq, option_map}
use Rattle.std.specs.List.{fold}
use Rattle.std.proofs.lemmas.Bool.{false≢true, true≢false}
use Rattle.names_core.specs.Ids.{before}
use Rattle.cluster_model.specs.Ids.{bytes_before}
use Rattle.cluster_model.specs.Rounds.{Share, share, stands_at_most_at, stands_first}
use Rattle.quantity.specs.declared.rows.Row.{Row}
use Rattle.drf_pick.specs.Shares.{Holder, Tally}
use Rattle.drf_pick.specs.Least.{Client, IsPicked, StandsBy, StandsLeast, better, better_client, client_holder, comes_before, role_share}
use Rattle.drf_pick.specs.Laws.{IsLeast}
use Rattle.drf_pick.specs.Orders.{Among}
use Rattle.drf_pick.proofs.Picks.{Sound, alone, of_role, picks_least}
use Rattle.drf_pick.proofs.Standing.{standing_is_order}

-- the fold over clients is the one over what they hold

better_holder : (t : Tally) (o : Option Client) (c : Client) → option_map (client_holder t) (better_client t o c) ≡ better t (option_map (client_holder t) o) (client_holder t c)
better_holder t None c = refl
better_holder t (Some d) c = by_case (comes_before t (client_holder t c) (client_holder t d))
  where
    by_case : (b : Bool) → option_map (client_holder t) (cond b (Some c) (Some d)) ≡ cond b (Some (client_holder t c)) (Some (client_holder t d))
    by_case true = refl
    by_case false = refl

folded : (t : Tally) (o : Option Client) (cs : List Client) → option_map (client_holder t) (fold (better_client t) o cs) ≡ fold (better t) (option_map (client_holder t) o) (map (client_holder t) cs)
folded t o [] = refl
folded t o (c ∷ cs) = folded t (better_client t o c) cs ∙ ap (λ (p : Option Holder). fold (better t) p (map (client_holder t) cs)) (better_holder t o c)

-- the best is one of them

better_among : (t : Tally) (d c : Client) → (better_client t (Some d) c ≡ Some c) ⊎ (better_client t (Some d) c ≡ Some d)
better_among t d c = by_case (comes_before t (client_holder t c) (client_holder t d))
  where
    by_case : (b : Bool) → (cond b (Some c) (Some d) ≡ Some c) ⊎ (cond b (Some c) (Some d) ≡ Some d)
    by_case true = inl refl
    by_case false = inr refl

pub record Found (t : Tally) (d : Client) (cs : List Client) : Type 0 where
  pub client : Client
  pub is : fold (better_client t) (Some d) cs ≡ Some client
  pub there : Among client (d ∷ cs)

found : (t : Tally) (d : Client) (cs : List Client) → Found t d cs
found t d [] = record { client = d; is = refl; there = inl refl }
found t d (c ∷ cs) = by_case (found t c cs) (found t d cs) (better_among t d c)
  where
    further : (x : Client) → Among x (d ∷ cs) → Among x (d ∷ c ∷ cs)
    further x (inl i) = inl i
    further x (inr i) = inr (inr i)

    by_case : Found t c cs → Found t d cs → ((better_client t (Some d) c ≡ Some c) ⊎ (better_client t (Some d) c ≡ Some d)) → Found t d (c ∷ cs)
    by_case w v (inl e) = record { client = w.client; is = ap (λ (o : Option Client). fold (better_client t) o cs) e ∙ w.is; there = inr w.there }
    by_case w v (inr e) = record { client = v.client; is = ap (λ (o : Option Client). fold (better_client t) o cs) e ∙ v.is; there = further v.client v.there }

among_map : (t : Tally) (d : Client) (cs : List Client) → Among d cs → Among (client_holder t d) (map (client_holder t) cs)
among_map t d [] i = absurd i
among_map t d (c ∷ cs) (inl e) = inl (ap (client_holder t) e)
among_map t d (c ∷ cs) (inr i) = inr (among_map t d cs i)

-- none comes before it, so it stands at most at each

stood : (totals : List Row) (a b : Share) (tie : Bool) → (stands_at_most_at totals b a ≡ false → stands_at_most_at totals a b ≡ true) → stands_first totals b a tie ≡ false → StandsBy totals a b (not tie)
stood totals a b tie total h = by_case (stands_at_most_at totals b a) (stands_at_most_at totals a b) refl refl tie h
  where
    by_case : (y x : Bool) → stands_at_most_at totals b a ≡ y → stands_at_most_at totals a b ≡ x → (v : Bool) → (y && (v || not x)) ≡ false → StandsBy totals a b (not v)
    by_case false x ey ex v k = record { at_most = total ey; tied = λ e. absurd (false≢true (sym ey ∙ e)) }
    by_case true true ey ex true k = absurd (true≢false k)
    by_case true true ey ex false k = record { at_most = ex; tied = λ e. refl }
    by_case true false ey ex true k = absurd (true≢false k)
    by_case true false ey ex false k = absurd (true≢false k)

stands : (t : Tally) → Sound t → (c d : Holder) → comes_before t d c ≡ false → StandsLeast t c d
stands t sound c d h = by_case (bytes_eq d.role c.role) h
  where
    by_case : (b : Bool)
        → cond b (stands_first t.totals (share d.held 1) (share c.held 1) (before d.framework c.framework)) (stands_first t.totals (role_share t.roles d.role) (role_share t.roles c.role) (bytes_before d.role c.role)) ≡ false
        → MatchBool b (StandsBy t.totals (share c.held 1) (share d.held 1) (not (before d.framework c.framework))) (StandsBy t.totals (role_share t.roles c.role) (role_share t.roles d.role) (not (bytes_before d.role c.role)))
    by_case true k = stood t.totals (share c.held 1) (share d.held 1) (before d.framework c.framework) ((standing_is_order t.totals sound.0).total (alone d) (alone c)) k
    by_case false k = stood t.totals (role_share t.roles c.role) (role_share t.roles d.role) (bytes_before d.role c.role) ((standing_is_order t.totals sound.0).total (of_role t sound d.role) (of_role t sound c.role)) k

-- what the fold over clients gives

pub some_picked : (t : Tally) → Sound t → (cs : List Client) (client : Client) → fold (better_client t) None cs ≡ Some client → IsPicked t cs client.framework
some_picked t sound [] client e = absurd (cc)
some_picked t sound (c ∷ cs) client e = record {
  client = client;
  there = subst (λ (x : Client). Among x (c ∷ cs)) is w.there;
  named = refl;
  least = λ d i. stands t sound (client_holder t client) (client_holder t d) (least.least (client_holder t d) (among_map t d (c ∷ cs) i));
}
  where
    w : Found t c cs
    w = found t c cs

    is : w.client ≡ client
    is = let both : Some w.client ≡ Some client = sym w.is ∙ e in cc

    all : fold (better t) None (map (client_holder t) (c ∷ cs)) ≡ Some (client_holder t client)
    all = sym (folded t None (c ∷ cs)) ∙ ap (option_map (client_holder t)) e

    least : IsLeast t (map (client_holder t) (c ∷ cs)) (client_holder t client)
    least = subst (λ (o : Option Holder). MatchOption o (map (client_holder t) (c ∷ cs) ≡ []) (IsLeast t (map (client_holder t) (c ∷ cs)))) all (picks_least t (map (client_holder t) (c ∷ cs)) sound.0 sound.1)

pub none_picked : (t : Tally) (cs : List Client) → fold (better_client t) None cs ≡ None → cs ≡ []
none_picked t [] e = refl
none_picked t (c ∷ cs) e = absurd (let w = found t c cs in let both : None ≡ Some w.client = sym e ∙ w.is in cc)
