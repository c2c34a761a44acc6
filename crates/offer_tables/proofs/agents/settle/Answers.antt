use Rattle.std.proofs.Common.{[], refl}
use Rattle.offer_tables.specs.Rows.{IsGivenBack}
use Rattle.offer_tables.proofs.Amounts.{given_none}
use Rattle.offer_tables.proofs.Changed.{changed_none}
use Rattle.offer_tables.proofs.agents.settle.Goals as goal

pub returns-else-ends : goal.returns-else-ends
returns-else-ends c =
    rw c.if-ends.false (changed_none (IsGivenBack []) c.args.agents.now.items c.args.place c.requires (λ r. record { same_name = refl; same_in = refl; same_total = refl; back = given_none r.total r.free }))

pub returns-then-ends : goal.returns-then-ends
returns-then-ends c = rw c.if-ends.true c.give_back_task.ensures
