use Rattle.std.proofs.Common.{◌≡◌, length}
use Rattle.http_head.specs.Heads.{has_close}
use Rattle.http_head.proofs.words.has_close.Given as goal

abbrev pub invariant-loop-rest : goal.invariant-loop-rest
invariant-loop-rest l = has_close l.rest ≡ has_close l.text

abbrev pub decreases-loop-rest : goal.decreases-loop-rest
decreases-loop-rest l = length l.rest
