use Rattle.std.proofs.Common.{◌≡◌, ◌++◌, take}
use Rattle.values.proofs.plain.push_copies.Given as goal

abbrev pub invariant-loop-value : goal.invariant-loop-value
invariant-loop-value g l = l.values.items ≡ l.initial.values.items ++ take l.value-index l.more
