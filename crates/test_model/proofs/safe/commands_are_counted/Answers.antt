use Rattle.std.proofs.Common.{refl, arith}
use Rattle.messages.specs.declared.mail.Command.TheVariants.{Kill}
use Rattle.test_model.specs.Short.{id}
use Rattle.test_model.proofs.Issuing.{has_two}
use Rattle.test_model.proofs.safe.commands_are_counted.Goals as goal

pub returns : goal.returns
returns c = ((λ e. has_two _ 2 0 (Kill (id 1 1)) (Kill (id 1 1)) refl refl refl (omega arith)), tt)
