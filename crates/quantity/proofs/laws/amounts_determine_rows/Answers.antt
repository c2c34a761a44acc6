use Rattle.quantity.proofs.Amounts.{amounts_determine_rows as law}
use Rattle.quantity.proofs.laws.amounts_determine_rows.Goals as goal

pub returns : goal.returns
returns c = law
