-- One statement of a transaction behind another, and what stands of the two at each exit.
use Rattle.std.proofs.Common.{◌≡◌, inl, refl, arith, Result, Ok, Err, MatchResult, IfOk, IfErr, OnOk, subst, sym}
use Rattle.std.specs.Prelude.{⊤}
use Rattle.std.specs.Result.{IsErr, result_and}
use Rattle.std.proofs.lemmas.Result.{MatchResult-from_err, MatchResult-weaker}
use Rattle.sqlite.specs.Tree.{Trees}
use Rattle.sqlite.specs.State.{State, HasCleanDisk, KeepsCommit, Survives}
use Rattle.sqlite.proofs.StateLemmas.{survives_then}
use Rattle.keep_tables.specs.Tables.{IsWriting, WritesIfOk, WritesOn}
use Rattle.keep_tables.proofs.StoreLemmas.{then_on, then_err}

pub quiet_then : (a b c : State) → Survives a b (λ _. ⊥) → Survives b c (λ _. ⊥) → Survives a c (λ _. ⊥)
quiet_then a b c one two = survives_then a b c _ _ _ (λ _ db none. none) (λ _ db none. none) one two

pub clean_before : (a b : State) → Survives a b (λ _. ⊥) → HasCleanDisk b → HasCleanDisk a
clean_before a b one clean = omega (arith, one.clean, clean)

-- one change and then another
abbrev pub Both : (Trees → Trees → Type 0) → (Trees → Trees → Type 0) → Trees → Trees → Type 0
Both P Q x z = (y : Trees) × P x y × Q y z

pub both_on : (P Q : Trees → Trees → Type 0) (a b c : State) → WritesOn P a b → WritesOn Q b c → WritesOn (Both P Q) a c
both_on P Q a b c p q = then_on P Q (Both P Q) a b c p q (λ h k. (b.now.trees, h, k))

-- what goes on keeps what was committed
pub on_keeps : (P : Trees → Trees → Type 0) (a b : State) → IsWriting a → WritesOn P a b → KeepsCommit a b
on_keeps P a b writing p = record { was_open = λ _. writing.is_open; committed = λ _. p.committed }

module _ (P : Trees → Trees → Type 0) (a b c : State) (first : IsWriting a → HasCleanDisk b → WritesOn P a b) (quiet : Survives b c (λ _. ⊥)) where
  -- the second failed
  pub failed_then : (R : Trees → Trees → Type 0) {T E : Type 0} (r : Result T E) → IsErr r → (IsWriting b → HasCleanDisk c → KeepsCommit b c) → WritesIfOk R r a c
  failed_then R r is second = λ writing clean.
      let before = first writing (clean_before b c quiet clean) in
      MatchResult-from_err r _ _ is (λ _. then_err P a b c writing before (second before.writing clean))

  -- what came of the second is returned
  pub went_then : (Q R : Trees → Trees → Type 0) {T E : Type 0} (r : Result T E) → WritesIfOk Q r b c → ((x y z : Trees) → P x y → Q y z → R x z) → WritesIfOk R r a c
  went_then Q R r second f = λ writing clean.
      let before = first writing (clean_before b c quiet clean) in
      MatchResult-weaker r (second before.writing clean) (λ _ done. then_on P Q R a b c before done (f a.now.trees b.now.trees c.now.trees)) (λ _ kept. then_err P a b c writing before kept)

  -- both went well, and together changed this
  pub went_both : (Q R : Trees → Trees → Type 0) → (IsWriting b → HasCleanDisk c → WritesOn Q b c) → ((x y z : Trees) → P x y → Q y z → R x z) → IsWriting a → HasCleanDisk c → WritesOn R a c
  went_both Q R second f writing clean =
      let before = first writing (clean_before b c quiet clean) in
      then_on P Q R a b c before (second before.writing clean) (f a.now.trees b.now.trees c.now.trees)

  -- both went well
  pub both_went : (Q : Trees → Trees → Type 0) → (IsWriting b → HasCleanDisk c → WritesOn Q b c) → IsWriting a → HasCleanDisk c → WritesOn (Both P Q) a c
  both_went Q second writing clean =
      let before = first writing (clean_before b c quiet clean) in
      both_on P Q a b c before (second before.writing clean)

-- a value in place of what is given back where all went well
pub and_match : {X Y E : Type 0} (r : Result Y E) (x : X) (s : Result X E) (P : Y → Type 0) (R : X → Type 0) (Q : E → Type 0) → s ≡ result_and r (Ok x) → MatchResult r P Q → ((y : Y) → P y → R x) → MatchResult s R Q
and_match (Ok y) x s P R Q is h f = subst (λ t. MatchResult t R Q) (sym is) (f y h)
and_match (Err e) x s P R Q is h f = subst (λ t. MatchResult t R Q) (sym is) h

-- what holds anyway holds where it went well
pub on_any : {X E P : Type 0} (r : Result X E) → P → OnOk r P
on_any (Ok x) h = h
on_any (Err e) h = tt

pub and_any : {X Y E : Type 0} (r : Result Y E) (x : X) (s : Result X E) (R : X → Type 0) → s ≡ result_and r (Ok x) → R x → IfOk s R
and_any r x s R is h = and_match r x s (λ _. ⊤) R (λ _. ⊤) is (anything r) (λ _ _. h)
  where
    anything : {Y E : Type 0} (r : Result Y E) → IfOk r (λ _. ⊤)
    anything (Ok y) = tt
    anything (Err e) = tt

pub and_err : {X Y E : Type 0} (r : Result Y E) (x : X) (s : Result X E) (Q : E → Type 0) → s ≡ result_and r (Ok x) → IfErr r Q → IfErr s Q
and_err r x s Q is h = and_match r x s (λ _. ⊤) (λ _. ⊤) Q is h (λ _ _. tt)

-- ---- nothing was done

pub quiet_itself : (a : State) → Survives a a (λ _. ⊥)
quiet_itself a = record {
  clean = omega arith;
  counts = omega arith;
  limit = refl;
  closes = λ clean up. inl up;
  shield = λ h. h;
  crash = λ clean db may. inl may;
}
