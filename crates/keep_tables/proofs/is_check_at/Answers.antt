use Rattle.std.proofs.Common.{rules, ◌≡◌, Option, Some, None, IfNone, slice_get}
use Rattle.sqlite.specs.Collation.TheVariants.{Binary}
use Rattle.sqlite_sql.specs.declared.ops.BinaryOp.TheVariants.{Compare}
use Rattle.sqlite_sql.specs.declared.ops.CompareOp.TheVariants.{Eq}
use Rattle.sqlite_schema.specs.declared.code.Op.TheVariants as op
use Rattle.keep_tables.proofs.CheckLemmas.{check_of, nodes_of, operands_of}
use Rattle.keep_tables.proofs.is_check_at.Goals as goal

at_none : {A : Type 0} (o : Option A) {P : Type 0} → o ≡ None → IfNone o P → P
at_none None is h = h
at_none (Some x) is h = absurd cc

pub returns-in_default : goal.returns-in_default
returns-in_default c = (
  λ yes. absurd (let e = yes in cc),
  λ has.
      let n = nodes_of c.args.ops.now c.args.root has in
      let none : c.operands_at.result ≡ None = search rules in
      absurd (at_none c.operands_at.result none c.operands_at.ensures.none n.1 n.2 n.3.equality),
)

pub returns : goal.returns
returns c =
    let ops = c.args.ops.now in
    let root = c.args.root in
    let left = c.in-Some.left in
    let right = c.in-Some.right in
    let equality : slice_get ops root ≡ Some (op.Binary (Compare Eq Binary) left right) = search rules in (
      λ yes.
          let both = c.are_operands.ensures.0 yes in
          check_of ops root left right both.0 (record { equality = equality; id = both.1; one = both.2 }),
      λ has. c.are_operands.ensures.1 (operands_of ops root left right equality has),
    )
