-- The byte order of names.
use Rattle.std.proofs.Common.{◌≡◌, ℕ, true, false, nat_eq, List, sym, ap, ◌∙◌}
use Rattle.std.specs.Cmp.Lexicographic.{pointwise, slice_cmp, same_text, texts_ties, nat_list_cmp_total, nat_list_eq_equiv}
use Rattle.std.specs.Ordering.{nat_cmp, is_eq, ordering_reverse}
use Rattle.std.specs.declared.cmp.Ordering.TheVariants.{Less, Equal, Greater}
use Rattle.std.proofs.lemmas.Cmp.{tied_itself}

-- a name that stands before another is another
pub below_other : (a b : List ℕ) → slice_cmp nat_cmp a b ≡ Less → pointwise nat_eq a b ≡ false
below_other a b h = texts_ties a b ∙ ap is_eq h

pub above_other : (a b : List ℕ) → slice_cmp nat_cmp b a ≡ Less → pointwise nat_eq a b ≡ false
above_other a b h = nat_list_eq_equiv.symm a b ∙ below_other b a h

pub below_back : (a b : List ℕ) → slice_cmp nat_cmp a b ≡ Greater → slice_cmp nat_cmp b a ≡ Less
below_back a b h = nat_list_cmp_total.antisymm b a ∙ ap ordering_reverse h

pub above_back : (a b : List ℕ) → slice_cmp nat_cmp a b ≡ Less → slice_cmp nat_cmp b a ≡ Greater
above_back a b h = nat_list_cmp_total.antisymm b a ∙ ap ordering_reverse h

pub level_same : (a b : List ℕ) → slice_cmp nat_cmp a b ≡ Equal → a ≡ b
level_same a b h = same_text a b (sym (texts_ties a b ∙ ap is_eq h))

pub level_itself : (a : List ℕ) → slice_cmp nat_cmp a a ≡ Equal
level_itself a = tied_itself nat_list_cmp_total a

pub same_itself : (a : List ℕ) → pointwise nat_eq a a ≡ true
same_itself a = nat_list_eq_equiv.refl a

pub below_trans : (a b c : List ℕ) → slice_cmp nat_cmp a b ≡ Less → slice_cmp nat_cmp b c ≡ Less → slice_cmp nat_cmp a c ≡ Less
below_trans a b c = nat_list_cmp_total.trans a b c

pub level_back : (a b : List ℕ) → slice_cmp nat_cmp a b ≡ Equal → slice_cmp nat_cmp b a ≡ Equal
level_back a b h = nat_list_cmp_total.antisymm b a ∙ ap ordering_reverse h

pub level_equal : (a b : List ℕ) → slice_cmp nat_cmp a b ≡ Equal → pointwise nat_eq a b ≡ true
level_equal a b h = texts_ties a b ∙ ap is_eq h
