-- Texts in byte order.
use Rattle.std.proofs.Common.{◌≡◌, ℕ, List, refl, arith}
use Rattle.std.proofs.lemmas.Bool.Decides.{nat_tests}
use Rattle.std.proofs.lemmas.Cmp.{same_from_slice_cmp}
use Rattle.std.specs.Ordering.{nat_cmp, is_lt}
use Rattle.std.specs.declared.cmp.Ordering.{Ordering}
use Rattle.std.specs.Cmp.Lexicographic.{slice_cmp}
use Rattle.names_core.specs.Names.{bytes_before}

-- the order of texts is the byte order
pub before_text : (xs ys : List ℕ) (o : Ordering) → o ≡ slice_cmp nat_cmp xs ys → is_lt o ≡ bytes_before xs ys
before_text = same_from_slice_cmp nat_cmp is_lt bytes_before refl (λ _ _. refl) (λ _ _. refl) (λ x y xs ys o h. grind (arith, nat_tests))
