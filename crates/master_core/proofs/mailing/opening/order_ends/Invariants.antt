use Rattle.std.proofs.Common.{◌≡◌, take}
use Rattle.std.specs.List.{fold}
use Rattle.master_core.specs.MailingSteps.{ending}
use Rattle.master_core.proofs.mailing.opening.order_ends.Given as goal

abbrev pub invariant-loop-framework : goal.invariant-loop-framework
invariant-loop-framework l = l.state ≡ fold (ending l.agent) l.fn.state (take l.framework-index l.ends)
