use Rattle.std.proofs.Common.{◌≡◌, ◌++◌, map, take}
use Rattle.cluster_parts.specs.Masters.{item_to, sent_to}
use Rattle.cluster_parts.proofs.masters.push_mails.Given as goal

abbrev pub invariant-loop-to : goal.invariant-loop-to
invariant-loop-to l = (l.sent.items ≡ l.fn.sent.items ++ map sent_to (take l.to-index l.mails)) × (l.items.items ≡ l.fn.items.items ++ map item_to (take l.to-index l.mails))
