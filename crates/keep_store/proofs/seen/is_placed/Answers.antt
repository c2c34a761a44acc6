use Rattle.std.proofs.Common.{◌≡◌, ◌+◌, ◌*◌, ◌^◌, arith}
use Rattle.std.proofs.lemmas.Bool.Decides.{nat_tests}
use Rattle.keep_store.proofs.FoundLemmas.{placed}
use Rattle.keep_store.proofs.seen.is_placed.Goals as goal

pub returns : goal.returns
returns c = λ test task read_back.
    let it = c.in-Ok-Ok-Ok in
    let at : it.place ≡ it.run' * 2 ^ 32 + it.number = grind (arith, nat_tests, test, c.from.ensures, c.from-2.ensures) in
    placed c.args.row.now it.place it.run' it.number task it.ensures.ok.1 it.ensures'.ok.1 it.ensures''.ok.1 at read_back
