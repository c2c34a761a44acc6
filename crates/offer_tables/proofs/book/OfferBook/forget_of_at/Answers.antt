use Rattle.std.proofs.Common.{◌≡◌, ◌<◌, ◌-◌, zero, suc, length, refl, sym, ap, subst, ◌∙◌, arith}
use Rattle.std.proofs.lemmas.List.{length-map}
use Rattle.offer_book.specs.Lists.{at_place}
use Rattle.offer_tables.specs.Accounts.{Account, without_task_at, is_of_framework}
use Rattle.offer_tables.specs.Found.{tasks_on}
use Rattle.offer_tables.proofs.Only.{at_place-alike, at_place-twice, at_same, at_there, kept_all, kept_from, kept_long, kept_none, kept_step, there_at}
use Rattle.offer_tables.proofs.book.OfferBook.forget_of_at.Goals as goal

pub loop-index-init : goal.loop-index-init
loop-index-init c =
    let xs = tasks_on c.args.place c.args.self.now in
    let many : length c.tasks_on-index.result.now ≡ length xs = ap length c.tasks_on-index.ensures.keys ∙ length-map xs (λ x. x.job.key) in
    record {
      within = omega (arith, many);
      left = sym (at_there (λ x. x.job.key) (λ a. a.booked) (λ l a. record a { booked = l }) (λ a. refl) (kept_from (λ x. x.job.key) (is_of_framework c.args.framework) (length c.tasks_on-index.result.now)) (λ l. l) c.args.place c.args.self.now
          (kept_none (λ x. x.job.key) (is_of_framework c.args.framework) (length c.tasks_on-index.result.now) xs (sym many))
          ∙ at_same (λ x. x.job.key) (λ a. a.booked) (λ l a. record a { booked = l }) (λ a. refl) c.args.place c.args.self.now);
    }

pub forget_at-requires : goal.forget_at-requires
forget_at-requires c =
    let t = is_of_framework c.args.framework in
    let i = c.loop-index.index - 1 in
    let xs = tasks_on c.args.place c.args.self.now in
    let next : c.loop-index.index ≡ suc i = omega (arith, c.loop-index-test.true) in
    let long : i < length (kept_from (λ x. x.job.key) t c.loop-index.index xs) = subst (λ n. i < length (kept_from (λ x. x.job.key) t n xs)) (sym next) (kept_long (λ x. x.job.key) t i xs (omega (arith, c.loop-index.invariant.within, next))) in
    let here : tasks_on c.args.place c.loop-index.self ≡ kept_from (λ x. x.job.key) t c.loop-index.index xs =
    ap (tasks_on c.args.place) c.loop-index.invariant.left
    ∙ there_at (λ x. x.job.key) (λ a. a.booked) (λ l a. record a { booked = l }) (λ a. refl) (λ l a. refl) (kept_from (λ x. x.job.key) t c.loop-index.index) refl c.args.place c.args.self.now in
    subst (λ l. i < length l) (sym here) long

pub loop-index-preserved : goal.loop-index-preserved
loop-index-preserved c =
    let t = is_of_framework c.args.framework in
    let i = c.loop-index.index - 1 in
    let next : c.loop-index.index ≡ suc i = omega (arith, c.loop-index-test.true) in
    let was : c.loop-index.self ≡ at_place c.args.place (λ a. record a { booked = kept_from (λ x. x.job.key) t (suc i) a.booked }) c.args.self.now =
    subst (λ n. c.loop-index.self ≡ at_place c.args.place (λ a. record a { booked = kept_from (λ x. x.job.key) t n a.booked }) c.args.self.now) next c.loop-index.invariant.left in
    record {
      within = omega (arith, c.loop-index.invariant.within);
      left = c.forget_at.ensures ∙ ap (at_place c.args.place (without_task_at t i)) was
          ∙ at_place-twice c.args.place (without_task_at t i) (λ a. record a { booked = kept_from (λ x. x.job.key) t (suc i) a.booked }) c.args.self.now
          ∙ at_place-alike c.args.place (λ a. without_task_at t i (record a { booked = kept_from (λ x. x.job.key) t (suc i) a.booked })) (λ a. record a { booked = kept_from (λ x. x.job.key) t i a.booked })
          (λ a. λ j. record a { booked = kept_step (λ x. x.job.key) t i a.booked j }) c.args.self.now;
    }

pub returns : goal.returns
returns c =
    let t = is_of_framework c.args.framework in
    let done : c.loop-index.index ≡ zero = omega (arith, c.loop-index-test.false) in
    c.loop-index.invariant.left
    ∙ ap (λ n. at_place c.args.place (λ (a : Account). record a { booked = kept_from (λ x. x.job.key) t n a.booked }) c.args.self.now) done
    ∙ at_place-alike c.args.place (λ a. record a { booked = kept_from (λ x. x.job.key) t zero a.booked }) _ (λ a. λ j. record a { booked = kept_all (λ x. x.job.key) t a.booked j }) c.args.self.now
