use Rattle.std.proofs.Common.{zero-le}
use Rattle.cluster_model.proofs.fits.new_sides_fit.Goals as goal

pub returns : goal.returns
returns c name resource = zero-le
