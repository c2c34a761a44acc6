use Rattle.std.proofs.Common.{rules, ◌≡◌, ◌≢◌, length}
use Rattle.keep_store.proofs.HeadLemmas.{by_second, not_second}
use Rattle.keep_store.proofs.reading.second_total.Goals as goal

pub returns-then-is_empty-clause-read_back : goal.returns-then-is_empty-clause-read_back
returns-then-is_empty-clause-read_back c = λ held same.
    let none : length c.args.own ≡ 0 = search rules in
    rw (by_second c.args.own held none) (c.total_of.ensures.read_back held same)

pub returns-then-is_empty-clause-unreadable : goal.returns-then-is_empty-clause-unreadable
returns-then-is_empty-clause-unreadable c = λ held same damaged.
    let none : length c.args.own ≡ 0 = search rules in
    rw (by_second c.args.own held none) (c.total_of.ensures.unreadable held same damaged)

pub returns-clause-unreadable : goal.returns-clause-unreadable
returns-clause-unreadable c = λ held same damaged.
    let some : length c.args.own ≢ 0 = search rules in
    not_second c.args.own held some
