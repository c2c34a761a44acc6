use Rattle.std.proofs.Common.{refl, inl, arith}
use Rattle.test_model.specs.Short.{id}
use Rattle.test_model.proofs.Taking.{first_named}
use Rattle.test_model.specs.Agents.{job_of_two}
use Rattle.test_model.specs.Taking.{acknowledged_then, first_call}
use Rattle.test_model.specs.Worlds.{with_updates}
use Rattle.test_model.proofs.safe.acks_take_no_more_than_named.Goals as goal

pub returns : goal.returns
returns c = first_named with_updates (job_of_two (id 1 1)) acknowledged_then first_call (omega arith) (inl (refl, refl, refl))
