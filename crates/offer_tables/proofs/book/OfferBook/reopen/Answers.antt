use Rattle.std.proofs.Common.{◌≡◌, ◌++◌, ◌∷◌, [], Ok, length, take, inr, refl, sym, ap, ◌∙◌, append_assoc}
use Rattle.std.proofs.lemmas.List.{take_at}
use Rattle.offer_tables.specs.Accounts.{is_agent, reopened, with_task}
use Rattle.offer_tables.specs.Books.{at_first, booked, reopened_on}
use Rattle.offer_tables.proofs.Reopening.{next_booked, opens_too, refused_alike}
use Rattle.offer_tables.proofs.book.OfferBook.reopen.Goals as goal

pub loop-task-preserved : goal.loop-task-preserved
loop-task-preserved c =
    let done = c.loop-task.yielded in
    let task = c.in-Some.task in
    let rest = c.next.new.self.rest.items in
    let all : done ++ task ∷ rest ≡ c.args.tasks = ap (λ l. done ++ l) (sym c.in-Some.ensures.steps.0) ∙ c.loop-task.invariant.all in
    let n = next_booked c.args.name.now done rest task c.args.tasks c.args.total c.args.self.now c.loop-task.self c.requires all c.loop-task.invariant.opened in
    record { opened = n.after ∙ sym n.due ∙ c.in-Ok-book.ensures.ok; all = append_assoc done (task ∷ []) rest ∙ all }

pub returns-in-Err-book-clause-refused : goal.returns-in-Err-book-clause-refused
returns-in-Err-book-clause-refused c =
    let done = c.loop-task.yielded in
    let task = c.in-Some.task in
    let name = c.args.name.now in
    let rest = c.next.new.self.rest.items in
    let old = c.args.self.now in
    let all : done ++ task ∷ rest ≡ c.args.tasks = ap (λ l. done ++ l) (sym c.in-Some.ensures.steps.0) ∙ c.loop-task.invariant.all in
    let n = next_booked name done rest task c.args.tasks c.args.total old c.loop-task.self c.requires all c.loop-task.invariant.opened in
    refused_alike c.in-Err-book.fault (at_first (is_agent name) (with_task task) c.loop-task.self) (at_first (is_agent name) (reopened c.args.tasks c.args.total) old)
    (booked name task c.loop-task.self) (reopened_on name c.args.tasks c.args.total old) n.due (opens_too name done c.args.tasks c.args.total old c.loop-task.self c.loop-task.invariant.opened) c.in-Err-book.ensures.refused

pub returns-in-Err-book-clause-err : goal.returns-in-Err-book-clause-err
returns-in-Err-book-clause-err c =
    let done = c.loop-task.yielded in
    let task = c.in-Some.task in
    let name = c.args.name.now in
    let rest = c.next.new.self.rest.items in
    let old = c.args.self.now in
    let all : done ++ task ∷ rest ≡ c.args.tasks = ap (λ l. done ++ l) (sym c.in-Some.ensures.steps.0) ∙ c.loop-task.invariant.all in
    let first : take (length done) c.args.tasks ≡ done = ap (take (length done)) (sym all) ∙ take_at done (task ∷ rest) (length done) refl in
    inr (length done, ap (λ l. reopened_on name l c.args.total old) first ∙ c.loop-task.invariant.opened ∙ ap (λ bs. Ok bs) (sym c.in-Err-book.ensures.err))
