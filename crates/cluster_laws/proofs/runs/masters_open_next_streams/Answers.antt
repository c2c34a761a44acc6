use Rattle.cluster_laws.proofs.Ordinary.{called_ordinary, allocated_ordinary, ticked_ordinary, lost_ordinary, hung_ordinary, mailed_ordinary}
use Rattle.cluster_laws.proofs.runs.masters_open_next_streams.Goals as goal

pub returns : goal.returns
returns x = record {
  calls = λ m stream call. (called_ordinary m stream call).opens;
  rounds = λ ws m. (allocated_ordinary ws m).opens;
  ticks = λ m now. (ticked_ordinary m now).opens;
  losses = λ m s. (lost_ordinary m s).opens;
  hang_ups = λ m stream. (hung_ordinary m stream).opens;
  mails = λ m s mail. (mailed_ordinary m s mail).opens;
}
