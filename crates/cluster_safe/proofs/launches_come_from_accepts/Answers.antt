use Rattle.cluster_safe.proofs.Sources.{called_from, mailed_without, ticked_without, lost_without, hung_without, allocated_without}
use Rattle.cluster_safe.proofs.launches_come_from_accepts.Goals as goal

pub returns : goal.returns
returns c = record { calls = called_from; mails = mailed_without; ticks = ticked_without; losses = lost_without; hang_ups = hung_without; rounds = allocated_without }
