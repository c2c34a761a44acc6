use Rattle.std.proofs.Common.{refl}
use Rattle.cluster_laws.proofs.Moves.{greets, stops_anew, anew_master}
use Rattle.cluster_laws.proofs.parts.masters_begin_with_greetings.Goals as goal

pub returns : goal.returns
returns c = record { greets = greets; state = λ x test. (stops_anew x test).0; mails = λ x test. (stops_anew x test).1; master = anew_master; sides = λ s. refl }
