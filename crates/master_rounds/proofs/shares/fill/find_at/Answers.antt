use Rattle.std.proofs.Common.{◌≡◌, IsTrue, rules, ap, sym, ◌∙◌}
use Rattle.master_rounds.proofs.Finding.{set_same}
use Rattle.master_rounds.proofs.shares.fill.find_at.Goals as goal

pub returns-then-are_found-clause-found : goal.returns-then-are_found-clause-found
returns-then-are_found-clause-found c =
    let found : IsTrue c.are_found.result = search rules in
    (c.index.result.now, set_same c.args.counted.now.found.items c.args.place c.index.result.now c.requires c.index.ensures, sym c.deref.ensures.value ∙ c.are_found.ensures found)
