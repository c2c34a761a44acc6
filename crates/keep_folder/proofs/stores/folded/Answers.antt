use Rattle.keep_folder.proofs.Folded.{run_folded}
use Rattle.keep_folder.proofs.stores.folded.Goals as goal

pub returns-in_ok-fold-in-Some-clause-run : goal.returns-in_ok-fold-in-Some-clause-run
returns-in_ok-fold-in-Some-clause-run g c = λ run gives.
    let again = c.in_ok-fold-in-Some in
    run_folded c.args.kept c.in-Some.keeper again.field-0 run c.in-Some.is again.ensures.clean again.ensures.ready again.ensures.same gives
