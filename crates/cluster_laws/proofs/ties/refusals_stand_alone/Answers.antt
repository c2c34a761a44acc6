use Rattle.cluster_laws.proofs.Refusals.{calls_alone, hang_ups_alone, losses_alone, rounds_alone, ticks_alone}
use Rattle.cluster_laws.proofs.ties.refusals_stand_alone.Goals as goal

pub returns : goal.returns
returns c = record { calls = calls_alone; rounds = rounds_alone; ticks = ticks_alone; losses = losses_alone; hang_ups = hang_ups_alone }
