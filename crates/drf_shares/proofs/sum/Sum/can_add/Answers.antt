use Rattle.std.proofs.Common.{sym, ◌∙◌}
use Rattle.drf_shares.proofs.Fitting.{can_if_fits, fits_if_can}
use Rattle.drf_shares.proofs.sum.Sum.can_add.Goals as goal

pub returns : goal.returns
returns c = (λ e. can_if_fits c.args.self.now c.args.more.now c.fits_all.ensures.sum c.fits_all.ensures.rows (sym c.fits_all.ensures.tests ∙ e), λ can. c.fits_all.ensures.tests ∙ fits_if_can c.args.self.now c.args.more.now can)
