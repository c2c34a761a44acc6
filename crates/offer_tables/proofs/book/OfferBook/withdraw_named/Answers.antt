use Rattle.std.proofs.Common.{◌≡◌, ◌+◌, ◌∷◌, [], drop, map, sym, ap, ◌∙◌}
use Rattle.std.proofs.lemmas.List.{drop_more, drop_all}
use Rattle.offer_tables.specs.Accounts.{without_named}
use Rattle.offer_tables.proofs.Only.{map-alike}
use Rattle.offer_tables.proofs.Ridding.{map-same, map-twice, without_none, without_one}
use Rattle.offer_tables.proofs.book.OfferBook.withdraw_named.Goals as goal

pub loop-id-preserved : goal.loop-id-preserved
loop-id-preserved c =
    let ids = c.args.ids.now in
    let i = c.loop-id.id-index in
    let id = c.id-item.result in
    let f = c.args.framework in
    let split : drop i ids ≡ id ∷ drop (i + 1) ids = drop_more ids i id c.loop-id-test.true ∙ ap (λ j. j ∷ drop (i + 1) ids) (sym c.id-item.is) in
    ap (map (without_named f (drop (i + 1) ids))) c.withdraw_one.ensures
    ∙ map-twice (without_named f (drop (i + 1) ids)) (without_named f (id ∷ [])) c.loop-id.self
    ∙ map-alike _ _ (without_one f id (drop (i + 1) ids)) c.loop-id.self
    ∙ ap (λ js. map (without_named f js) c.loop-id.self) (sym split) ∙ c.loop-id.invariant

pub returns : goal.returns
returns c =
    sym (map-same (without_named c.args.framework []) (without_none c.args.framework) c.loop-id.self)
    ∙ ap (λ js. map (without_named c.args.framework js) c.loop-id.self) (sym (drop_all c.loop-id.id-index c.args.ids.now c.loop-id-test.false)) ∙ c.loop-id.invariant
