use Rattle.std.proofs.Common.{◌≡◌, ℕ, ◌+◌, ◌≤◌, List, [], ◌∷◌, ◌++◌, take, refl, sym, ap, ◌∙◌, subst, le_trans, append_assoc}
use Rattle.std.proofs.Math.Nat.{le-max_left, le-max_right, max-le}
use Rattle.std.proofs.lemmas.Bool.{false≢true}
use Rattle.std.proofs.lemmas.List.{take_more}
use Rattle.std.proofs.lemmas.List.Recursion.{max_bounds, max_push}
use Rattle.serde_json.specs.Data.{depth, items_depth, members_depth}
use Rattle.serde_json.specs.View.{view, items_view, members_view}
use Rattle.serde_json.specs.declared.value.Value.{Value}
use Rattle.serde_json.proofs.Views.{Entry}
use Rattle.call_json.proofs.nesting.+nests_within.Goals as goal

abbrev items_nest : List Value → ℕ
items_nest vs = items_depth (items_view vs)

abbrev members_nest : List Entry → ℕ
members_nest es = members_depth (members_view es)

member_nests : (done : List Entry) (e : Entry) (left : List Entry) → depth (view e.1) ≤ members_nest (done ++ e ∷ left)
member_nests [] e left = le-max_left (depth (view e.1)) (members_nest left)
member_nests (first ∷ done) e left = le_trans (member_nests done e left) (le-max_right (depth (view first.1)) (members_nest (done ++ e ∷ left)))

pub items_nest_within-returns-then-not-nests_within : goal.items_nest_within-returns-then-not-nests_within
items_nest_within-returns-then-not-nests_within t c =
    let xs = c.deref-item-items.result.now in
    let v = c.item-item.result in
    let whole : items_nest xs ≡ items_nest c.args.items.now.items = ap items_nest c.deref-item-items.ensures.value in
    let one : depth (view v) ≤ items_nest xs = subst (λ w. depth (view w) ≤ items_nest xs) (sym c.item-item.is) (max_bounds items_nest (λ w. depth (view w)) refl (λ w ws. refl) xs c.loop-item.item-index v c.loop-item-test.true) in
    (λ no. absurd (false≢true no), λ le. c.if-not-nests_within.ensures.1 (le_trans one (subst (λ n. n ≤ c.args.levels) (sym whole) le)))

pub items_nest_within-loop-item-preserved : goal.items_nest_within-loop-item-preserved
items_nest_within-loop-item-preserved t c =
    let xs = c.deref-item-items.result.now in
    let i = c.loop-item.item-index in
    let v = c.item-item.result in
    let more : take (i + 1) xs ≡ take i xs ++ v ∷ [] = take_more xs i v c.loop-item-test.true ∙ ap (λ (w : Value). take i xs ++ w ∷ []) (sym c.item-item.is) in
    let both = max-le c.loop-item.invariant (c.if-not-nests_within.ensures.0 refl) in
    subst (λ vs. items_nest vs ≤ c.args.levels) (sym more) (subst (λ n. n ≤ c.args.levels) (sym (max_push items_nest (λ w. depth (view w)) refl (λ w ws. refl) (take i xs) v)) both)

pub members_nest_within-returns-then-not-nests_within : goal.members_nest_within-returns-then-not-nests_within
members_nest_within-returns-then-not-nests_within t c =
    let done = c.loop-member.invariant.0 in
    let e : Entry = (c.in-Some.field-0-0.now, c.in-Some.member.now) in
    let all : c.args.members.now.entries ≡ done ++ e ∷ c.next.new.self = c.loop-member.invariant.1 ∙ ap (λ es. done ++ es) c.in-Some.ensures.steps in
    let one : depth (view e.1) ≤ members_nest c.args.members.now.entries = subst (λ es. depth (view e.1) ≤ members_nest es) (sym all) (member_nests done e c.next.new.self) in
    (λ no. absurd (false≢true no), λ le. c.if-not-nests_within.ensures.1 (le_trans one le))

pub members_nest_within-loop-member-preserved : goal.members_nest_within-loop-member-preserved
members_nest_within-loop-member-preserved t c =
    let done = c.loop-member.invariant.0 in
    let e : Entry = (c.in-Some.field-0-0.now, c.in-Some.member.now) in
    let all : c.args.members.now.entries ≡ done ++ e ∷ c.next.new.self = c.loop-member.invariant.1 ∙ ap (λ es. done ++ es) c.in-Some.ensures.steps in
    let both = max-le c.loop-member.invariant.2 (c.if-not-nests_within.ensures.0 refl) in (
      done ++ e ∷ [],
      all ∙ sym (append_assoc done (e ∷ []) c.next.new.self),
      subst (λ n. n ≤ c.args.levels) (sym (max_push members_nest (λ m. depth (view m.1)) refl (λ m ms. refl) done e)) both,
    )
