use Rattle.cluster_model.proofs.Numbering.{moves_keep_sides}
use Rattle.cluster_model.proofs.Steps.{moves_keep_fits}
use Rattle.cluster_model.proofs.fits.moves_keep_fits.Goals as goal

pub returns-clause-fits : goal.returns-clause-fits
returns-clause-fits c = moves_keep_fits

pub returns-clause-sides : goal.returns-clause-sides
returns-clause-sides c = moves_keep_sides
