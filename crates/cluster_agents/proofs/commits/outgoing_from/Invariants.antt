use Rattle.std.proofs.Common.{◌≡◌, map, take}
use Rattle.cluster_agents.specs.Sending.{item_from, sent_from}
use Rattle.cluster_agents.proofs.commits.outgoing_from.Given as goal

abbrev pub invariant-loop-mail : goal.invariant-loop-mail
invariant-loop-mail l = (l.sent ≡ map (sent_from l.name) (take l.mail-index l.mails)) × (l.items ≡ map (item_from l.name) (take l.mail-index l.mails))
