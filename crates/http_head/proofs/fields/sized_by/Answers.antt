use Rattle.std.proofs.Common.{◌≡◌, ℕ, ◌+◌, ◌*◌, min, get_or, take, sym, ap, ◌∙◌, arith}
use Rattle.std.specs.Char.{is_ascii_digit, digit_value}
use Rattle.std.specs.Str.Parse.{digits_value}
use Rattle.std.proofs.lemmas.Int.Digits.{digits_value_more}
use Rattle.std.proofs.lemmas.Bool.Decides.{nat_tests}
use Rattle.http1.proofs.TextLemmas.{list_all_more}
use Rattle.http_head.proofs.fields.sized_by.Goals as goal

-- a value that is kept at a limit goes on as the whole value does
kept : (limit v d n : ℕ) → n ≡ min v limit → min (n * 10 + d) limit ≡ min (v * 10 + d) limit
kept limit v d n is = omega arith

pub loop-byte-preserved : goal.loop-byte-preserved
loop-byte-preserved c =
    let xs = c.args.text.now in
    let digit : digit_value (get_or xs c.loop-byte.byte-index 0) ≡ c.from.result = grind (arith, nat_tests) in
    let value = digits_value_more 10 xs _ c.loop-byte-test.true in (
      c.min-n.ensures ∙ ap (λ (d : ℕ). min (c.loop-byte.n * 10 + d) 1048577) (sym digit) ∙ kept 1048577 (digits_value 10 (take c.loop-byte.byte-index xs)) _ _ c.loop-byte.invariant.0
          ∙ ap (λ (v : ℕ). min v 1048577) (sym value),
      list_all_more is_ascii_digit _ _ 0 c.loop-byte-test.true c.loop-byte.invariant.1 (sym c.if-not-is_ascii_digit.ensures.value),
    )
