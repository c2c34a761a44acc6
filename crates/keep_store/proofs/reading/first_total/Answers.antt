use Rattle.std.proofs.Common.{rules, ◌≡◌, ◌≢◌, length}
use Rattle.keep_store.proofs.HeadLemmas.{by_first, not_first}
use Rattle.keep_store.proofs.reading.first_total.Goals as goal

pub returns-then-is_empty-clause-read_back : goal.returns-then-is_empty-clause-read_back
returns-then-is_empty-clause-read_back c = λ held same.
    let none : length c.args.amounts.now ≡ 0 = search rules in
    by_first c.args.own held c.args.amounts.now same none

pub returns-else-is_empty-clause-unreadable : goal.returns-else-is_empty-clause-unreadable
returns-else-is_empty-clause-unreadable c = λ held same damaged.
    let some : length c.args.amounts.now ≢ 0 = search rules in
    not_first c.args.own held c.args.amounts.now same some
