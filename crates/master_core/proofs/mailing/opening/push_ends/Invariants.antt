use Rattle.std.proofs.Common.{◌≡◌, ◌++◌, take, map, filter}
use Rattle.cluster_model.specs.Mails.{is_to_end}
use Rattle.master_state.specs.Works.{master_of}
use Rattle.master_core.proofs.mailing.opening.push_ends.Given as goal

abbrev pub invariant-loop-framework : goal.invariant-loop-framework
invariant-loop-framework l = l.ends.items ≡ l.fn.ends.items ++ map (λ f. f.id) (filter (is_to_end (master_of l.state) l.tasks) (take l.framework-index l.frameworks))
