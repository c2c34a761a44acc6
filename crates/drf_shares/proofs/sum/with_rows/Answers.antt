use Rattle.std.proofs.Common.{ℕ, ap, arith}
use Rattle.quantity.specs.declared.rows.Row.{Row}
use Rattle.quantity.specs.Rows.{amount}
use Rattle.drf_shares.proofs.Summing.{next_adds}
use Rattle.drf_shares.proofs.sum.with_rows.Goals as goal

pub raise-requires : goal.raise-requires
raise-requires c =
    let i : ℕ = c.loop-row.row-index in
    let r : Row = c.row-item.result in
    omega (arith, next_adds c.args.rows.now c.args.more.now i r (omega arith) c.row-item.is c.requires, ap (amount r.name) c.loop-row.invariant)
