use Rattle.std.proofs.Common.{◌≡◌, ◌+◌, ◌∷◌, [], drop, sym, ap, ◌∙◌}
use Rattle.std.proofs.lemmas.List.{drop_more, drop_all}
use Rattle.offer_book.specs.Lists.{at_place}
use Rattle.offer_tables.specs.Accounts.{without_named}
use Rattle.offer_tables.proofs.Only.{at_place-alike, at_place-twice}
use Rattle.offer_tables.proofs.Ridding.{at_place-none, without_none, without_one}
use Rattle.offer_tables.proofs.book.OfferBook.withdraw_named_at.Goals as goal

pub loop-id-preserved : goal.loop-id-preserved
loop-id-preserved c =
    let ids = c.args.ids.now in
    let i = c.loop-id.id-index in
    let id = c.id-item.result in
    let f = c.args.framework in
    let split : drop i ids ≡ id ∷ drop (i + 1) ids = drop_more ids i id c.loop-id-test.true ∙ ap (λ j. j ∷ drop (i + 1) ids) (sym c.id-item.is) in
    ap (at_place c.args.place (without_named f (drop (i + 1) ids))) c.withdraw_one_at.ensures
    ∙ at_place-twice c.args.place (without_named f (drop (i + 1) ids)) (without_named f (id ∷ [])) c.loop-id.self
    ∙ at_place-alike c.args.place _ _ (without_one f id (drop (i + 1) ids)) c.loop-id.self
    ∙ ap (λ js. at_place c.args.place (without_named f js) c.loop-id.self) (sym split) ∙ c.loop-id.invariant

pub returns : goal.returns
returns c =
    sym (at_place-none c.args.place (without_named c.args.framework []) (without_none c.args.framework) c.loop-id.self)
    ∙ ap (λ js. at_place c.args.place (without_named c.args.framework js) c.loop-id.self) (sym (drop_all c.loop-id.id-index c.args.ids.now c.loop-id-test.false)) ∙ c.loop-id.invariant
