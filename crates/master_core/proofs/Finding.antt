-- Ids that were inserted into an ordered list are found in it.
use Rattle.std.proofs.Common.{◌≡◌, Bool, true, false, ◌||◌, List, [], ◌∷◌, fold, refl, sym, ap, ◌∙◌, arith}
use Rattle.std.specs.List.{list_any}
use Rattle.std.specs.Ordering.{match_ordering}
use Rattle.std.specs.declared.cmp.Ordering.{Ordering}
use Rattle.std.specs.declared.cmp.Ordering.TheVariants.{Less, Equal, Greater}
use Rattle.std.specs.BTreeMap.{is_at}
use Rattle.std.specs.BTreeSet.{insert_key}
use Rattle.std.proofs.lemmas.Bool.Decides.{nat_tests}
use Rattle.names_core.specs.Ids.{Numbered, same}
use Rattle.messages.specs.declared.task.Booked.{Booked}
use Rattle.master_core.specs.Reported.{id_cmp}

at_same : (a b : Numbered) → is_at (id_cmp a) b ≡ same b a
at_same a b = grind (arith, nat_tests)

equal_alike : (q k x : Numbered) → id_cmp k x ≡ Equal → same k q ≡ same x q
equal_alike q k x e = grind (arith, nat_tests)

or_twice : (a b : Bool) → (a || b) ≡ (a || (a || b))
or_twice true b = refl
or_twice false b = refl

or_turned : (a b c : Bool) → (a || (b || c)) ≡ (b || (a || c))
or_turned true true c = refl
or_turned true false c = refl
or_turned false b c = refl

or_moved : (a b c : Bool) → ((a || b) || c) ≡ (b || (a || c))
or_moved true true c = refl
or_moved true false c = refl
or_moved false b c = refl

found_with : (q k : Numbered) (ks : List Numbered) → list_any (is_at (id_cmp q)) (insert_key id_cmp ks k) ≡ (same k q || list_any (is_at (id_cmp q)) ks)
found_with q k [] = rw (at_same q k) refl
found_with q k (x ∷ xs) = by (id_cmp k x) refl (found_with q k xs)
  where
    rest : Bool
    rest = list_any (is_at (id_cmp q)) xs

    by : (o : Ordering) → id_cmp k x ≡ o → list_any (is_at (id_cmp q)) (insert_key id_cmp xs k) ≡ (same k q || rest)
        → list_any (is_at (id_cmp q)) (match_ordering o (k ∷ x ∷ xs) (x ∷ xs) (x ∷ insert_key id_cmp xs k)) ≡ (same k q || (is_at (id_cmp q) x || rest))
    by Less e ih = ap (λ b. b || (is_at (id_cmp q) x || rest)) (at_same q k)
    by Equal e ih = or_twice (is_at (id_cmp q) x) rest ∙ ap (λ b. b || (is_at (id_cmp q) x || rest)) (at_same q x ∙ sym (equal_alike q k x e))
    by Greater e ih = ap (λ b. is_at (id_cmp q) x || b) ih ∙ or_turned (is_at (id_cmp q) x) (same k q) rest

-- of all tasks whose ids were inserted
pub all_found : (id : Booked → Numbered) (q : Numbered) (tasks : List Booked) (ks : List Numbered)
    → list_any (is_at (id_cmp q)) (fold (λ ids t. insert_key id_cmp ids (id t)) ks tasks) ≡ (list_any (λ t. same (id t) q) tasks || list_any (is_at (id_cmp q)) ks)
all_found id q [] ks = refl
all_found id q (t ∷ ts) ks =
    all_found id q ts (insert_key id_cmp ks (id t))
    ∙ ap (λ b. list_any (λ u. same (id u) q) ts || b) (found_with q (id t) ks)
    ∙ or_turned (list_any (λ u. same (id u) q) ts) (same (id t) q) (list_any (is_at (id_cmp q)) ks)
    ∙ or_joined (same (id t) q) (list_any (λ u. same (id u) q) ts) (list_any (is_at (id_cmp q)) ks)
  where
    or_joined : (a b c : Bool) → (a || (b || c)) ≡ ((a || b) || c)
    or_joined true b c = refl
    or_joined false b c = refl

-- where none stood before
pub just_found : (id : Booked → Numbered) (q : Numbered) (tasks : List Booked) → list_any (is_at (id_cmp q)) (fold (λ ids t. insert_key id_cmp ids (id t)) [] tasks) ≡ list_any (λ t. same (id t) q) tasks
just_found id q tasks = all_found id q tasks [] ∙ none_else (list_any (λ t. same (id t) q) tasks)
  where
    none_else : (b : Bool) → (b || false) ≡ b
    none_else true = refl
    none_else false = refl
