-- What is read of the rows of tables that are to have one row at most.
use Rattle.std.proofs.Common.{◌≡◌, ℕ, List, sym, subst, arith}
use Rattle.sqlite.specs.Order.{Row}
use Rattle.sqlite.specs.Effect.{Database}
use Rattle.sqlite.specs.State.{State, HasCleanDisk, Survives}
use Rattle.sqlite.proofs.StateLemmas.{survives_then, survives_weaker}
use Rattle.keep_tables.specs.Tables.{AreIds, IsLone, keeper_schema}
use Rattle.keep_tables.proofs.ReadLemmas.{lone_ids}

-- ---- three queries of ids, one behind another

pub quiet_first : (a b : State) → a.now.schema ≡ keeper_schema → Survives a b (λ _. a.now.schema ≡ keeper_schema → ⊥) → Survives a b (λ _. ⊥)
quiet_first a b has = survives_weaker a b _ _ (λ _ db none. none has)

pub quiet_next : (a b c : State) → (HasCleanDisk b → b.now.schema ≡ keeper_schema) → Survives a b (λ _. ⊥) → Survives b c (λ _. b.now.schema ≡ keeper_schema → ⊥) → Survives a c (λ _. ⊥)
quiet_next a b c has one two = survives_then a b c _ _ _ (λ _ db none. none) (λ clean db none. none (has (omega (arith, two.clean)))) one two

-- the table that was read has the row 1 alone, and so has it those ids alone
pub refused_ids : (d now : Database) (ids : List Row) (at : ℕ) → now ≡ d → AreIds ids (now.trees at) → IsLone (d.trees at) → (IsLone ids → ⊥) → ⊥
refused_ids d now ids at same are lone not = not (lone_ids (now.trees at) ids are (subst (λ (it : Database). IsLone (it.trees at)) (sym same) lone))
