use Rattle.std.proofs.Common.{rules, ◌≡◌, true, subst}
use Rattle.names_core.specs.Ids.{before}
use Rattle.drf_pick.specs.Shares.{AreUpTo}
use Rattle.drf_pick.proofs.UpTo.{push_behind}
use Rattle.drf_pick.proofs.holdings.later.Goals as goal

pub returns-then-lt : goal.returns-then-lt
returns-then-lt c =
    let lt : before c.in-Some.last c.args.framework ≡ true = search rules in
    λ hs role held up. push_behind c.in-Some.last c.args.framework hs role held lt (subst (λ o. AreUpTo o hs) c.in-Some.is up)
