use Rattle.std.proofs.Common.{◌≡◌, ◌+◌, suc, length, take, ap, ◌∙◌, arith, rules}
use Rattle.std.proofs.lemmas.List.{length-map}
use Rattle.offer_tables.specs.Found.{tasks_on}
use Rattle.offer_tables.specs.Held.{all_placed}
use Rattle.offer_tables.proofs.Counting.{counted_more}
use Rattle.offer_tables.proofs.book.OfferBook.booked_count.Goals as goal

pub loop-place-preserved : goal.loop-place-preserved
loop-place-preserved c =
    let p = c.loop-place.place in
    let here = tasks_on p c.args.self.now in
    let many : length c.tasks_on.result.now ≡ length here = ap length c.tasks_on.ensures.keys ∙ length-map here (λ b. b.job.key) in
    let next : suc p ≡ p + 1 = omega arith in (
      omega (
        arith,
        c.loop-place.invariant.0,
        many,
        counted_more c.args.self.now p (omega (arith, c.loop-place-test.true, c.len-place-end.ensures)),
        ap (λ n. length (all_placed (take n c.args.self.now))) next,
      ),
      search rules,
    )
