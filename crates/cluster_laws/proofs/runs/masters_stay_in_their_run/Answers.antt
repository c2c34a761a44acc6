use Rattle.cluster_model.specs.Calls.{call_effect}
use Rattle.cluster_model.specs.Clusters.{master_of}
use Rattle.cluster_model.specs.Mails.{agent_lost, hung_up, mail_effect, ticked}
use Rattle.cluster_model.specs.Rounds.{allocated}
use Rattle.cluster_laws.proofs.Ordinary.{called_ordinary, allocated_ordinary, ticked_ordinary, lost_ordinary, hung_ordinary, mailed_ordinary}
use Rattle.cluster_laws.proofs.WithinRuns.{keeps_run, receives_run}
use Rattle.cluster_laws.proofs.runs.masters_stay_in_their_run.Goals as goal

pub returns : goal.returns
returns x = record {
  calls = λ c stream call. keeps_run c (call_effect (master_of c) stream call) (called_ordinary (master_of c) stream call).moves;
  rounds = λ c. keeps_run c (allocated c.weights (master_of c)) (allocated_ordinary c.weights (master_of c)).moves;
  ticks = λ c now. keeps_run c (ticked (master_of c) now) (ticked_ordinary (master_of c) now).moves;
  losses = λ c s. keeps_run c (agent_lost (master_of c) s) (lost_ordinary (master_of c) s).moves;
  hang_ups = λ c stream. keeps_run c (hung_up (master_of c) stream) (hung_ordinary (master_of c) stream).moves;
  mails = λ c agent place s mail. receives_run c agent place (mail_effect (master_of c) s mail) (mailed_ordinary (master_of c) s mail).moves;
}
