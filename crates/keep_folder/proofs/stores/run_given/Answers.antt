use Rattle.std.proofs.Common.{◌≡◌, ◌<◌, ◌^◌, ◌∙◌, IsSomeAnd, Some, add-one, ap, arith, subst, sym}
use Rattle.sqlite.specs.Held.{state}
use Rattle.keep_store.specs.SavesKept.{Kept}
use Rattle.keep_folder.specs.Given.{GivesRun}
use Rattle.keep_folder.proofs.stores.run_given.Goals as goal

pub returns-clause-run : goal.returns-clause-run
returns-clause-run g c = λ clean.
    let n = c.in_ok-number.number in
    let given = c.in_ok-number.ensures.given (c.requires (c.in_ok-number.ensures.clean clean)) clean in
    let some : 0 < n = omega (arith, given.1) in
    let few : n < 2 ^ 16 = omega (arith, c.in_ok-number.ensures.few) in
    let is : c.run_of-run.result ≡ Some n = c.run_of-run.ensures some few in
    let last = ap (λ (kept : Kept). kept.last) given.2 ∙ sym (given.1 ∙ add-one _) in
    subst (λ run. IsSomeAnd run (GivesRun (state g.S.Store c.next_run.new.self))) (sym is) (given.0, last)

pub returns-clause-next : goal.returns-clause-next
returns-clause-next g c = λ clean.
    let n = c.in_ok-number.number in
    let given = c.in_ok-number.ensures.given (c.requires (c.in_ok-number.ensures.clean clean)) clean in
    let some : 0 < n = omega (arith, given.1) in
    let few : n < 2 ^ 16 = omega (arith, c.in_ok-number.ensures.few) in
    let is : c.run_of-run.result ≡ Some n = c.run_of-run.ensures some few in
    is ∙ ap (λ k. Some k) given.1

pub returns-clause-usable : goal.returns-clause-usable
returns-clause-usable g c = λ clean. (c.in_ok-number.ensures.given (c.requires (c.in_ok-number.ensures.clean clean)) clean).0
