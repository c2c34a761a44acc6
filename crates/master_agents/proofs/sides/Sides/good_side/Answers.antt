use Rattle.std.proofs.Common.{◌≡◌, ◌∷◌, true, false, cond, drop, zero, slice_get, Some, None, sym, ap, ◌∙◌, arith}
use Rattle.std.specs.List.{find}
use Rattle.cluster_model.specs.Sides.{is_good}
use Rattle.master_agents.specs.Own.{if_good}
use Rattle.master_agents.proofs.Owning.{empty_is, first_is, good_from, no_ids, none_good}
use Rattle.master_agents.proofs.sides.Sides.good_side.Goals as goal

pub returns-in_default : goal.returns-in_default
returns-in_default c =
    sym (ap (λ ids. find (λ s. is_good s c.args.framework ids) c.args.self.now) (empty_is c.args.ids.now c.in_default.ensures.value) ∙ no_ids c.args.framework c.args.self.now)

pub returns-in_default-offer_place : goal.returns-in_default-offer_place
returns-in_default-offer_place c =
    let id = c.in-Some.id.now in
    let ids : c.args.ids.now ≡ id ∷ drop 1 c.args.ids.now = first_is c.args.ids.now id c.in-Some.ensures.value in
    sym (ap (λ l. find (λ s. is_good s c.args.framework l) c.args.self.now) ids ∙ ap (find (λ s. is_good s c.args.framework (id ∷ drop 1 c.args.ids.now))) (sym c.self.view_is)
    ∙ none_good c.args.framework id (drop 1 c.args.ids.now) c.self.inside.roster c.self.inside.book c.in_default-offer_place.ensures)

pub returns-in_default-at : goal.returns-in_default-at
returns-in_default-at c =
    let id = c.in-Some.id.now in
    let e = c.in-Some-offer_place.located.now in
    let rest = drop 1 c.args.ids.now in
    let ids : c.args.ids.now ≡ id ∷ rest = first_is c.args.ids.now id c.in-Some.ensures.value in
    sym (ap (λ l. find (λ s. is_good s c.args.framework l) c.args.self.now) ids ∙ ap (find (λ s. is_good s c.args.framework (id ∷ rest))) (sym c.self.view_is)
    ∙ good_from c.args.framework id rest zero e.place e.place e.item c.self.inside.roster c.self.inside.book (omega arith) c.in-Some-offer_place.ensures.1
    ∙ ap (if_good c.args.framework (id ∷ rest)) (ap (λ ss. slice_get ss e.place) c.self.view_is ∙ sym c.in_default-at.ensures))

pub returns-then-is_good : goal.returns-then-is_good
returns-then-is_good c =
    let id = c.in-Some.id.now in
    let e = c.in-Some-offer_place.located.now in
    let rest = drop 1 c.args.ids.now in
    let ids : c.args.ids.now ≡ id ∷ rest = first_is c.args.ids.now id c.in-Some.ensures.value in
    let good : is_good c.in-Some-at.side c.args.framework (id ∷ rest) ≡ true = ap (is_good c.in-Some-at.side c.args.framework) (sym ids) ∙ sym c.is_good.ensures ∙ c.if-is_good.true in
    sym (ap (λ l. find (λ s. is_good s c.args.framework l) c.args.self.now) ids ∙ ap (find (λ s. is_good s c.args.framework (id ∷ rest))) (sym c.self.view_is)
    ∙ good_from c.args.framework id rest zero e.place e.place e.item c.self.inside.roster c.self.inside.book (omega arith) c.in-Some-offer_place.ensures.1
    ∙ ap (if_good c.args.framework (id ∷ rest)) (ap (λ ss. slice_get ss e.place) c.self.view_is ∙ sym c.in-Some-at.ensures)
    ∙ ap (λ v. cond v (Some c.in-Some-at.side) None) good)

pub returns-else-is_good : goal.returns-else-is_good
returns-else-is_good c =
    let id = c.in-Some.id.now in
    let e = c.in-Some-offer_place.located.now in
    let rest = drop 1 c.args.ids.now in
    let ids : c.args.ids.now ≡ id ∷ rest = first_is c.args.ids.now id c.in-Some.ensures.value in
    let good : is_good c.in-Some-at.side c.args.framework (id ∷ rest) ≡ false = ap (is_good c.in-Some-at.side c.args.framework) (sym ids) ∙ sym c.is_good.ensures ∙ c.if-is_good.false in
    sym (ap (λ l. find (λ s. is_good s c.args.framework l) c.args.self.now) ids ∙ ap (find (λ s. is_good s c.args.framework (id ∷ rest))) (sym c.self.view_is)
    ∙ good_from c.args.framework id rest zero e.place e.place e.item c.self.inside.roster c.self.inside.book (omega arith) c.in-Some-offer_place.ensures.1
    ∙ ap (if_good c.args.framework (id ∷ rest)) (ap (λ ss. slice_get ss e.place) c.self.view_is ∙ sym c.in-Some-at.ensures)
    ∙ ap (λ v. cond v (Some c.in-Some-at.side) None) good)
