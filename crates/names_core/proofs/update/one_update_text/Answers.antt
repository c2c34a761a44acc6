use Rattle.std.proofs.Common.{ap, ◌∙◌}
use Rattle.names_core.specs.Updates.{update_of}
use Rattle.names_core.proofs.UpdateTexts.{update_says, update_again}
use Rattle.names_core.proofs.update.one_update_text.Goals as goal

pub returns : goal.returns
returns c = λ u text small. (update_says u text small, λ h. ap update_of h.1 ∙ update_again u h.0)
