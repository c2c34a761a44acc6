use Rattle.std.proofs.Common.{None}
use Rattle.master_state.proofs.Searches.{pushed}
use Rattle.master_state.proofs.registry.starts.fill_to.Goals as goal

pub returns-in_err-push : goal.returns-in_err-push
returns-in_err-push c = λ fs h. rw c.in_err-push.ensures.items (c.loop.invariant fs h)

pub loop-preserved : goal.loop-preserved
loop-preserved c = λ fs h. rw c.in_ok-push.ensures.items (pushed fs c.loop.items.items None tt (c.loop.invariant fs h))
