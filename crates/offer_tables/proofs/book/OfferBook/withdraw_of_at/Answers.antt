use Rattle.std.proofs.Common.{◌≡◌, ◌<◌, ◌-◌, zero, suc, length, refl, sym, ap, subst, ◌∙◌, arith}
use Rattle.std.proofs.lemmas.List.{length-map}
use Rattle.cluster_model.specs.Masters.{is_of}
use Rattle.offer_book.specs.Lists.{at_place}
use Rattle.offer_tables.specs.Accounts.{Account, without_offer_at}
use Rattle.offer_tables.specs.Found.{offers_on}
use Rattle.offer_tables.proofs.Only.{at_place-alike, at_place-twice, at_same, at_there, kept_all, kept_from, kept_long, kept_none, kept_step, there_at}
use Rattle.offer_tables.proofs.book.OfferBook.withdraw_of_at.Goals as goal

pub loop-index-init : goal.loop-index-init
loop-index-init c =
    let xs = offers_on c.args.place c.args.self.now in
    let many : length c.offers_on-index.result.now ≡ length xs = ap length c.offers_on-index.ensures.ids ∙ length-map xs (λ x. x.id) in
    record {
      within = omega (arith, many);
      left = sym (at_there (λ x. x.id) (λ a. a.offers) (λ l a. record a { offers = l }) (λ a. refl) (kept_from (λ x. x.id) (is_of c.args.framework) (length c.offers_on-index.result.now)) (λ l. l) c.args.place c.args.self.now
          (kept_none (λ x. x.id) (is_of c.args.framework) (length c.offers_on-index.result.now) xs (sym many))
          ∙ at_same (λ x. x.id) (λ a. a.offers) (λ l a. record a { offers = l }) (λ a. refl) c.args.place c.args.self.now);
    }

pub withdraw_at-requires : goal.withdraw_at-requires
withdraw_at-requires c =
    let t = is_of c.args.framework in
    let i = c.loop-index.index - 1 in
    let xs = offers_on c.args.place c.args.self.now in
    let next : c.loop-index.index ≡ suc i = omega (arith, c.loop-index-test.true) in
    let long : i < length (kept_from (λ x. x.id) t c.loop-index.index xs) = subst (λ n. i < length (kept_from (λ x. x.id) t n xs)) (sym next) (kept_long (λ x. x.id) t i xs (omega (arith, c.loop-index.invariant.within, next))) in
    let here : offers_on c.args.place c.loop-index.self ≡ kept_from (λ x. x.id) t c.loop-index.index xs =
    ap (offers_on c.args.place) c.loop-index.invariant.left
    ∙ there_at (λ x. x.id) (λ a. a.offers) (λ l a. record a { offers = l }) (λ a. refl) (λ l a. refl) (kept_from (λ x. x.id) t c.loop-index.index) refl c.args.place c.args.self.now in
    subst (λ l. i < length l) (sym here) long

pub loop-index-preserved : goal.loop-index-preserved
loop-index-preserved c =
    let t = is_of c.args.framework in
    let i = c.loop-index.index - 1 in
    let next : c.loop-index.index ≡ suc i = omega (arith, c.loop-index-test.true) in
    let was : c.loop-index.self ≡ at_place c.args.place (λ a. record a { offers = kept_from (λ x. x.id) t (suc i) a.offers }) c.args.self.now =
    subst (λ n. c.loop-index.self ≡ at_place c.args.place (λ a. record a { offers = kept_from (λ x. x.id) t n a.offers }) c.args.self.now) next c.loop-index.invariant.left in
    record {
      within = omega (arith, c.loop-index.invariant.within);
      left = c.withdraw_at.ensures ∙ ap (at_place c.args.place (without_offer_at t i)) was
          ∙ at_place-twice c.args.place (without_offer_at t i) (λ a. record a { offers = kept_from (λ x. x.id) t (suc i) a.offers }) c.args.self.now
          ∙ at_place-alike c.args.place (λ a. without_offer_at t i (record a { offers = kept_from (λ x. x.id) t (suc i) a.offers })) (λ a. record a { offers = kept_from (λ x. x.id) t i a.offers })
          (λ a. λ j. record a { offers = kept_step (λ x. x.id) t i a.offers j }) c.args.self.now;
    }

pub returns : goal.returns
returns c =
    let t = is_of c.args.framework in
    let done : c.loop-index.index ≡ zero = omega (arith, c.loop-index-test.false) in
    c.loop-index.invariant.left
    ∙ ap (λ n. at_place c.args.place (λ (a : Account). record a { offers = kept_from (λ x. x.id) t n a.offers }) c.args.self.now) done
    ∙ at_place-alike c.args.place (λ a. record a { offers = kept_from (λ x. x.id) t zero a.offers }) _ (λ a. λ j. record a { offers = kept_all (λ x. x.id) t a.offers j }) c.args.self.now
