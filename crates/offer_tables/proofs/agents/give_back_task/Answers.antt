use Rattle.std.proofs.Common.{◌≡◌, [], refl, sym, subst}
use Rattle.offer_tables.specs.Accounts.{unended_rows}
use Rattle.offer_tables.specs.Rows.{GivesBack, IsGivenBack}
use Rattle.offer_tables.proofs.Amounts.{given_none}
use Rattle.offer_tables.proofs.Changed.{changed_none}
use Rattle.offer_tables.proofs.agents.give_back_task.Goals as goal

pub returns-else-not-task : goal.returns-else-not-task
returns-else-not-task c =
    let h = c.if-not-task.false in
    let none : unended_rows c.args.task.now ≡ [] = rw h refl in
    changed_none (IsGivenBack (unended_rows c.args.task.now)) c.args.agents.now.items c.args.place c.requires
    (λ r. record { same_name = refl; same_in = refl; same_total = refl; back = subst (λ rows. GivesBack r.total rows r.free r.free) (sym none) (given_none r.total r.free) })
