use Rattle.std.proofs.Common.{rules, ◌≡◌, ◌<◌, ◌≤◌, [], ◌∷◌, List, ℕ, length, get_or, sym, ap, ◌∙◌, arith}
use Rattle.keep_tables.proofs.has_unique.Goals as goal

single : {A : Type 0} (xs : List A) (x : A) → 1 ≤ length xs → length xs < 2 → x ≡ get_or xs 0 x → xs ≡ x ∷ []
single [] x some few is = absurd (omega (arith, some))
single (y ∷ []) x some few is = ap (λ z. z ∷ []) (sym is)
single (y ∷ z ∷ xs) x some few is = absurd (omega (arith, few))

pub returns : goal.returns
returns c = (
  λ yes.
      let is : c.unique-item.result ≡ c.args.columns.now = search rules in
      sym c.as_slice.ensures ∙ single c.as_slice.result.now c.unique-item.result c.in-len1.len_at_least c.in-len1.len_below c.unique-item.is ∙ ap (λ (u : List ℕ). u ∷ []) is,
  λ has.
      let all : c.as_slice.result.now ≡ c.args.columns.now ∷ [] = c.as_slice.ensures ∙ has in
      let is : c.unique-item.result ≡ c.args.columns.now = c.unique-item.is ∙ ap (λ (lists : List (List ℕ)). get_or lists 0 c.unique-item.result) all in
      search rules,
)
