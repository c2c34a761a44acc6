use Rattle.cluster_safe.proofs.Histories.{history_tells, history_hands}
use Rattle.cluster_safe.proofs.updates_have_the_states_of_their_numbers.Goals as goal

pub returns : goal.returns
returns c = record { told = history_tells; taken = history_hands }
