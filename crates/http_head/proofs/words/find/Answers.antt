use Rattle.std.proofs.Common.{◌==◌, length, sym, arith}
use Rattle.std.proofs.lemmas.Bool.Decides.{nat_tests}
use Rattle.std.proofs.lemmas.List.Sums.{position_or_len_is}
use Rattle.http_head.proofs.words.find.Goals as goal

pub returns-then-byte-wanted-clause-place : goal.returns-then-byte-wanted-clause-place
returns-then-byte-wanted-clause-place c =
    sym (position_or_len_is (λ b. b == c.args.wanted) c.args.text.now c.loop-i.i 0 (omega (arith, c.loop-i-test.true)) c.loop-i.invariant (λ _. grind (arith, nat_tests)))

pub returns-clause-place : goal.returns-clause-place
returns-clause-place c =
    sym (position_or_len_is (λ b. b == c.args.wanted) c.args.text.now (length c.args.text.now) 0 (omega arith)
    (λ k before. c.loop-i.invariant k (omega (arith, c.loop-i-test.false))) (λ bad. absurd (omega arith)))
