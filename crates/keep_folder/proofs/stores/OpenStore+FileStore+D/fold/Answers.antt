use Rattle.std.proofs.Common.{◌≡◌, IsSomeAnd, subst}
use Rattle.sqlite.specs.Files.{file_state}
use Rattle.sqlite.specs.State.{HasCleanDisk}
use Rattle.keep_folder.specs.Given.{GivesRun}
use Rattle.keep_folder.proofs.stores.OpenStore+FileStore+D.fold.Goals as goal

pub returns-clause-run : goal.returns-clause-run
returns-clause-run g c = λ run gives.
    let same : c.args.self.now ≡ c.take-kept.result = cc (c.take-kept.ensures.value, c.self.view_is) in
    c.in_ok-self-inside.ensures.run run (subst (λ it. IsSomeAnd it (λ keeper. HasCleanDisk (file_state keeper) → GivesRun (file_state keeper) run)) same gives)
