-- The nodes of the check that an id is 1.
use Rattle.std.proofs.Common.{refl, ◌≡◌, ◌≢◌, ◌<◌, ◌∙◌, ℕ, zero, suc, List, [], ◌∷◌, Option, Some, None, length, get_or, slice_get, unwrap_or, sym, subst, ap, arith, pos}
use Rattle.std.proofs.lemmas.Option.{get_or_from_slice_get, unwrap_or-slice_get}
use Rattle.sqlite.specs.Collation.TheVariants.{Binary}
use Rattle.sqlite.specs.declared.types.Value.{Value}
use Rattle.sqlite.specs.declared.types.Value.TheVariants.{Null, Int}
use Rattle.sqlite_sql.specs.declared.ops.BinaryOp.{BinaryOp}
use Rattle.sqlite_sql.specs.declared.ops.BinaryOp.TheVariants.{Compare}
use Rattle.sqlite_sql.specs.declared.ops.CompareOp.TheVariants.{Eq}
use Rattle.sqlite_sql.specs.Term.{Term, lit, col, op2}
use Rattle.sqlite_schema.specs.declared.code.Op.{Op}
use Rattle.sqlite_schema.specs.declared.code.Op.TheVariants as op
use Rattle.sqlite_schema.specs.Code.{op_term, term_to, terms_in}
use Rattle.keep_tables.specs.Schemas.{id_check}

got : (o : Option Op) (it : Op) → (op.Literal Null ≡ it → ⊥) → unwrap_or o (op.Literal Null) ≡ it → o ≡ Some it
got None it other is = absurd (other is)
got (Some x) it other is = ap (λ (y : Op). Some y) is

-- a node that isn't NULL is there
there : (ops : List Op) (at : ℕ) (it : Op) → (op.Literal Null ≡ it → ⊥) → get_or ops at (op.Literal Null) ≡ it → slice_get ops at ≡ Some it
there ops at it other is = got (slice_get ops at) it other (unwrap_or-slice_get ops at (op.Literal Null) ∙ is)

is_binary : (below : ℕ → Term) (it : Op) (o : BinaryOp) (s t : Term) → op_term below it ≡ op2 o s t → (a b : ℕ) × (it ≡ op.Binary o a b) × (below a ≡ s) × (below b ≡ t)
is_binary below (op.Literal v) o s t is = absurd cc
is_binary below (op.Column slot at) o s t is = absurd cc
is_binary below (op.Unary u a) o s t is = absurd cc
is_binary below (op.Binary p a b) o s t is = (a, b, cc, cc, cc)
is_binary below (op.Case c a b) o s t is = absurd cc

is_column : (below : ℕ → Term) (it : Op) (slot at : ℕ) → op_term below it ≡ col slot at → it ≡ op.Column slot at
is_column below (op.Literal v) slot at is = absurd cc
is_column below (op.Column x y) slot at is = cc
is_column below (op.Unary u a) slot at is = absurd cc
is_column below (op.Binary p a b) slot at is = absurd cc
is_column below (op.Case c a b) slot at is = absurd cc

is_literal : (below : ℕ → Term) (it : Op) (v : Value) → op_term below it ≡ lit v → it ≡ op.Literal v
is_literal below (op.Literal w) v is = cc
is_literal below (op.Column x y) v is = absurd cc
is_literal below (op.Unary u a) v is = absurd cc
is_literal below (op.Binary p a b) v is = absurd cc
is_literal below (op.Case c a b) v is = absurd cc

abbrev check : Term
check = op2 (Compare Eq Binary) (col 1 0) (lit (Int (pos 1)))

-- the three nodes
pub record Nodes (ops : List Op) (root a b : ℕ) : Type 0 where
  pub equality : slice_get ops root ≡ Some (op.Binary (Compare Eq Binary) a b)
  pub id : slice_get ops a ≡ Some (op.Column 1 0)
  pub one : slice_get ops b ≡ Some (op.Literal (Int (pos 1)))

nodes_to : (ops : List Op) (depth root : ℕ) → term_to ops depth root ≡ check → (1 < depth) × (a b : ℕ) × Nodes ops root a b
nodes_to ops zero root is = absurd cc
nodes_to ops (suc zero) root is = absurd (
    let it = is_binary (term_to ops 0) (get_or ops root (op.Literal Null)) _ _ _ is in
    let none : lit Null ≡ col 1 0 = it.3 in
    cc)
nodes_to ops (suc (suc depth)) root is =
    let it = is_binary (term_to ops (suc depth)) (get_or ops root (op.Literal Null)) _ _ _ is in
    let id = is_column (term_to ops depth) (get_or ops it.0 (op.Literal Null)) 1 0 it.3 in
    let one = is_literal (term_to ops depth) (get_or ops it.1 (op.Literal Null)) (Int (pos 1)) it.4 in (
      omega arith,
      it.0,
      it.1,
      record { equality = there ops root _ (λ e. cc) it.2; id = there ops it.0 _ (λ e. cc) id; one = there ops it.1 _ (λ e. absurd (let bad = e in cc)) one },
    )

term_by : (ops : List Op) (depth root a b : ℕ) → 1 < depth → Nodes ops root a b → term_to ops depth root ≡ check
term_by ops zero root a b deep nodes = absurd (omega (arith, deep))
term_by ops (suc zero) root a b deep nodes = absurd (omega (arith, deep))
term_by ops (suc (suc depth)) root a b deep nodes = rw (get_or_from_slice_get ops root _ (op.Literal Null) nodes.equality, get_or_from_slice_get ops a _ (op.Literal Null) nodes.id, get_or_from_slice_get ops b _ (op.Literal Null) nodes.one) refl

same_head : {A : Type 0} {x y : A} {xs ys : List A} → x ∷ xs ≡ y ∷ ys → x ≡ y
same_head e = cc

pub nodes_of : (ops : List Op) (root : ℕ) → terms_in ops (root ∷ []) ≡ id_check → (1 < length ops) × (a b : ℕ) × Nodes ops root a b
nodes_of ops root is = nodes_to ops (length ops) root (same_head is)

same_left : {o : BinaryOp} {a b left right : ℕ} → Some (op.Binary o a b) ≡ Some (op.Binary o left right) → a ≡ left
same_left e = cc

same_right : {o : BinaryOp} {a b left right : ℕ} → Some (op.Binary o a b) ≡ Some (op.Binary o left right) → b ≡ right
same_right e = cc

-- the operands are at the places that the root names
pub operands_of : (ops : List Op) (root left right : ℕ) → slice_get ops root ≡ Some (op.Binary (Compare Eq Binary) left right) → terms_in ops (root ∷ []) ≡ id_check
    → (1 < length ops) × (slice_get ops left ≡ Some (op.Column 1 0)) × (slice_get ops right ≡ Some (op.Literal (Int (pos 1))))
operands_of ops root left right equality is =
    let n = nodes_of ops root is in
    let same = sym n.3.equality ∙ equality in (
      n.0,
      subst (λ at. slice_get ops at ≡ Some (op.Column 1 0)) (same_left same) n.3.id,
      subst (λ at. slice_get ops at ≡ Some (op.Literal (Int (pos 1)))) (same_right same) n.3.one,
    )

pub check_of : (ops : List Op) (root a b : ℕ) → 1 < length ops → Nodes ops root a b → terms_in ops (root ∷ []) ≡ id_check
check_of ops root a b deep nodes = ap (λ (t : Term). t ∷ []) (term_by ops (length ops) root a b deep nodes)

-- one check has one root
pub one_root : (ops : List Op) (roots : List ℕ) → length roots ≢ 1 → terms_in ops roots ≡ id_check → ⊥
one_root ops [] other is = absurd cc
one_root ops (r ∷ []) other is = other refl
one_root ops (r ∷ s ∷ more) other is = absurd (let n = ap (λ (ts : List Term). length ts) is in cc)
