use Rattle.cluster_model.proofs.Receiving.{receiving_at_keeps_fits, receiving_keeps_fits}
use Rattle.cluster_model.proofs.Numbering.{receiving_keeps_sides}
use Rattle.cluster_model.proofs.fits.receiving_keeps_fits.Goals as goal

pub returns-clause-side : goal.returns-clause-side
returns-clause-side c = receiving_keeps_fits

pub returns-clause-at_agent : goal.returns-clause-at_agent
returns-clause-at_agent c = receiving_at_keeps_fits

pub returns-clause-sides : goal.returns-clause-sides
returns-clause-sides c = receiving_keeps_sides
