use Rattle.std.proofs.Common.{◌≡◌, ℕ, suc, ◌+◌, ◌<◌, List, [], None, Some, length, replicate, drop, set, get_or, string_bytes, rules, sym, ap, ◌∙◌, subst, arith}
use Rattle.std.specs.BTreeMap.{get_by_text}
use Rattle.std.proofs.lemmas.List.{length-set}
use Rattle.drf_pick.proofs.KeptShares.{stands}
use Rattle.drf_pick.specs.Shares.{is_role}
use Rattle.drf_pick.proofs.Ranked.{AreRankedUpTo, all_ranked, at_next, ended, names_of, next_ranked, none_yet, placed_next}
use Rattle.drf_pick.proofs.ranks.ranks_of.Goals as goal

pub loop-place-init : goal.loop-place-init
loop-place-init c =
    let none : c.in_ok-ranks.ranks.items ≡ replicate (length c.args.sums.now) None = c.in_ok-ranks.ensures.items_if_clones_equal (λ y clone. search rules) in
    record {
      left = c.into_iter-place-iterator.ensures.into_iter_gives ∙ c.iter-place-items.ensures.rest;
      within = omega arith;
      many = omega (arith, c.in_ok-ranks.ensures.len, c.in_ok-ranks.ranks.ok.0);
      ranked = subst (AreRankedUpTo c.args.places.now.entries 0 (get_by_text c.args.places.now)) (sym none) (none_yet c.args.places.now.entries (length c.args.sums.now) (get_by_text c.args.places.now));
    }

pub index_mut-requires : goal.index_mut-requires
index_mut-requires c =
    let es = c.args.places.now.entries in
    let place_of = get_by_text c.args.places.now in
    let place : ℕ = c.in-Some.place.now in
    let name : List ℕ = string_bytes c.in-Some.field-0-0.now in
    let here : place_of name ≡ Some place = placed_next es place_of c.loop-place.rank (c.in-Some.field-0-0.now, place) c.next.new.self (sym c.loop-place.invariant.left ∙ c.in-Some.ensures.steps) c.iter-place-items.ensures.found in
    let within : place < length c.args.sums.now = (stands (is_role name) c.args.sums.now place (sym (c.requires name) ∙ here)).within in
    omega (arith, within, c.loop-place.invariant.many, c.loop-place.ranks.ok.0)

pub loop-place-preserved : goal.loop-place-preserved
loop-place-preserved c =
    let es = c.args.places.now.entries in
    let place_of = get_by_text c.args.places.now in
    let k : ℕ = c.loop-place.rank in
    let ranks = c.loop-place.ranks.items in
    let place : ℕ = c.in-Some.place.now in
    let name : List ℕ = string_bytes c.in-Some.field-0-0.now in
    let is = sym c.loop-place.invariant.left ∙ c.in-Some.ensures.steps in
    let next = at_next es k (c.in-Some.field-0-0.now, place) c.next.new.self is in
    let here : place_of name ≡ Some place = placed_next es place_of k (c.in-Some.field-0-0.now, place) c.next.new.self is c.iter-place-items.ensures.found in
    let within : place < length c.args.sums.now = (stands (is_role name) c.args.sums.now place (sym (c.requires name) ∙ here)).within in
    let inside : place < length ranks = omega (arith, within, c.loop-place.invariant.many) in
    let named : place_of (get_or (names_of es) k []) ≡ Some place = ap place_of next.2 ∙ here in
    let one : suc k ≡ k + 1 = omega arith in
    record {
      left = subst (λ n. c.next.new.self ≡ drop n es) one (sym next.3);
      within = omega (arith, next.0);
      many = length-set ranks place (Some k) ∙ c.loop-place.invariant.many;
      ranked = subst (λ n. AreRankedUpTo es n place_of (set ranks place (Some k))) one (next_ranked es k c.args.sums.now place_of ranks place c.requires named inside c.loop-place.invariant.ranked);
    }

pub returns : goal.returns
returns c =
    let es = c.args.places.now.entries in
    let done : c.loop-place.rank ≡ length es = ended es c.loop-place.rank c.loop-place.invariant.within (sym c.loop-place.invariant.left ∙ c.in-None.ensures.steps.0) in
    all_ranked es (get_by_text c.args.places.now) c.loop-place.ranks.items c.iter-place-items.ensures.ordered
    (subst (λ n. AreRankedUpTo es n (get_by_text c.args.places.now) c.loop-place.ranks.items) done c.loop-place.invariant.ranked)
