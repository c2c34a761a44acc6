use Rattle.std.proofs.Common.{IfOk, Result, Ok, Err}
use Rattle.keep_folder.proofs.ClosingLemmas.{folded}
use Rattle.keep_folder.proofs.files.fold.Goals as goal

both : {X Y : Type 0} (r : Result X Y) {P Q R : X → Type 0} → IfOk r P → IfOk r Q → ((x : X) → P x → Q x → R x) → IfOk r R
both (Ok x) p q f = f x p q
both (Err e) p q f = tt

pub returns-in-Ok-clause-clean : goal.returns-in-Ok-clause-clean
returns-in-Ok-clause-clean g c = both c.over_files.result c.over_files.ensures.honest c.over_files.ensures.honest (λ again honest same clean. (c.in-Ok.ensures.copied (honest clean)).was_clean)

pub returns-in-Ok-clause-same : goal.returns-in-Ok-clause-same
returns-in-Ok-clause-same g c = both c.over_files.result c.over_files.ensures.honest c.over_files.ensures.found (λ again honest found clean ready. folded c.args.keeper again c.in-Ok.files c.in-Ok.ensures.copied (honest clean) (found clean) c.in-Ok.ensures.sound ready)
