use Rattle.std.proofs.Common.{refl}
use Rattle.cluster_laws.proofs.parts.fallen_masters_do_not_serve.Goals as goal

pub returns : goal.returns
returns c = record { falls = λ x. refl; new_falls = λ x. refl; last = λ x test. rw test refl }
