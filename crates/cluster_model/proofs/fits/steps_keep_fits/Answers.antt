use Rattle.cluster_model.proofs.Steps.{steps_keep_fits}
use Rattle.cluster_model.proofs.fits.steps_keep_fits.Goals as goal

pub returns : goal.returns
returns c = steps_keep_fits
