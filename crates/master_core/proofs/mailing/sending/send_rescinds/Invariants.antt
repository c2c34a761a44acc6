use Rattle.std.proofs.Common.{◌≡◌, ◌++◌, flat_map}
use Rattle.master_core.specs.Sending.{rescind_of}
use Rattle.master_core.proofs.mailing.sending.send_rescinds.Given as goal

abbrev pub invariant-loop-offer : goal.invariant-loop-offer
invariant-loop-offer l = l.events ++ flat_map (rescind_of l.frameworks) l.offer-iterator ≡ l.fn.events ++ flat_map (rescind_of l.frameworks) l.fn.offers
