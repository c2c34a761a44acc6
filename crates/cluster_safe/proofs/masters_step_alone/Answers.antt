use Rattle.cluster_safe.proofs.Alone.{master_alone, mails_alone, receives_alone}
use Rattle.cluster_safe.proofs.masters_step_alone.Goals as goal

pub returns : goal.returns
returns c = record { master = master_alone; mails = mails_alone; receives = receives_alone }
