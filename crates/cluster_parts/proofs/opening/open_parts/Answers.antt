use Rattle.std.proofs.Common.{IfOk, sym, subst}
use Rattle.cluster_parts.specs.Opening.{Opens}
use Rattle.cluster_parts.proofs.Openings.{and_there}
use Rattle.cluster_parts.proofs.opening.open_parts.Goals as goal

pub returns-clause-opens : goal.returns-clause-opens
returns-clause-opens g c = λ weights.
    let opens = Opens (record { run = c.args.run; weights = weights }) c.args.records.now in
    subst (λ r. IfOk r opens) (sym c.and.ensures) (and_there c.open_over-done.result c.open_over-done.new.opened opens (c.open_over-done.ensures.opens weights))
