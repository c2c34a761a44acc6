use Rattle.std.proofs.Common.{◌≡◌, ℕ, ◌≤◌, ◌+◌, ◌++◌, flat_map, get_or, length, take, inl, inr, sym, ap, subst, ◌∙◌, arith}
use Rattle.std.specs.List.{All}
use Rattle.std.specs.List.Sorted.{IsNonDecreasing, IsPermutation}
use Rattle.std.proofs.lemmas.List.{get_or_default, take_all}
use Rattle.master_rounds.specs.News.{news_of, places_of}
use Rattle.master_rounds.proofs.Places.{Outside, all_told, outside_next, told_more}
use Rattle.master_rounds.proofs.news.send_offers.Goals.{then-passed-place+then-place-frameworks+in_ok-send_to, else-passed-place, else-passed-place-via-then-passed-place+else-place-frameworks, else-passed-place-via-else-passed-place}
use Rattle.master_rounds.proofs.news.send_offers.Goals as goal

pub loop-place-preserved : goal.loop-place-preserved
loop-place-preserved c =
    let os = c.args.offers.now in
    let fs = c.args.frameworks.now in
    let ps = c.as_slice-place-items.result.now in
    let i : ℕ = c.loop-place.place-index in
    let first : ℕ = c.loop-place.passed in
    let passed : ℕ = c.if-passed-place.passed in
    let p : ℕ = get_or ps i 0 in
    let at : p ≡ get_or ps i p = get_or_default ps i 0 p c.loop-place-test.true in
    let kept = c.loop-place.invariant in
    let next : first ≤ passed → Outside passed (length fs) p → All (Outside passed (length fs)) (take (i + 1) ps) = λ most this. outside_next ps i p first (length fs) passed c.loop-place-test.true at most this kept.outside in
    elim c.if-passed-place.branch [
      | then-passed-place+then-place-frameworks+in_ok-send_to w ↦ (
          let moved : IsPermutation (places_of fs os) ps = subst (IsPermutation (places_of fs os)) (sym c.as_slice-place-items.ensures.value) c.in_ok-places.ensures.places in
          let rise : IsNonDecreasing ps = subst IsNonDecreasing (sym c.as_slice-place-items.ensures.value) c.in_ok-places.ensures.ordered in
          let events = told_more os fs ps i p first w.index-frameworks-place.result c.args.events.now c.loop-place.events c.requires.ordered moved rise c.loop-place-test.true at kept.outside w.if-passed-place.true w.if-place-frameworks.true w.index-frameworks-place.is kept.events in
          record {
            events = w.events-is ∙ w.in_ok-send_to.ensures ∙ events ∙ ap (λ (n : ℕ). c.args.events.now ++ flat_map (news_of os) (take n fs)) (sym w.passed-is);
            within = omega (arith, w.passed-is, w.if-place-frameworks.true);
            outside = next (omega (arith, w.passed-is, w.if-passed-place.true)) (inl (omega (arith, w.passed-is)));
          })
      | else-passed-place w ↦ record {
        events = w.events-is ∙ kept.events ∙ ap (λ (n : ℕ). c.args.events.now ++ flat_map (news_of os) (take n fs)) (sym w.passed-is);
        within = omega (arith, w.passed-is, kept.within);
        outside = next (omega (arith, w.passed-is)) (elim w.else-passed-place.branch [
          | else-passed-place-via-then-passed-place+else-place-frameworks v ↦ inr (omega (arith, v.if-place-frameworks.false))
          | else-passed-place-via-else-passed-place v ↦ inl (omega (arith, w.passed-is, v.if-passed-place.false))
        ]);
      }
    ]

pub returns : goal.returns
returns c =
    let os = c.args.offers.now in
    let fs = c.args.frameworks.now in
    let ps = c.as_slice-place-items.result.now in
    let kept = c.loop-place.invariant in
    let first : ℕ = c.loop-place.passed in
    let moved : IsPermutation (places_of fs os) ps = subst (IsPermutation (places_of fs os)) (sym c.as_slice-place-items.ensures.value) c.in_ok-places.ensures.places in
    let out : All (Outside first (length fs)) ps = subst (All (Outside first (length fs))) (take_all c.loop-place.place-index ps c.loop-place-test.false) kept.outside in
    kept.events ∙ ap (λ es. c.args.events.now ++ es) (all_told os fs ps first c.requires.ordered kept.within moved out)
