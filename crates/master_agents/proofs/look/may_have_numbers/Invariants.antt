use Rattle.std.proofs.Common.{◌≡◌, drop, bytes_eq}
use Rattle.std.specs.List.{find}
use Rattle.cluster_model.specs.Masters.{may_have_numbers}
use Rattle.master_agents.proofs.look.may_have_numbers.Given as goal

abbrev pub invariant-loop-entry : goal.invariant-loop-entry
invariant-loop-entry l = may_have_numbers l.count (find (λ s. bytes_eq s.name l.name) (drop l.entry-index l.entries)) ≡ may_have_numbers l.count (find (λ s. bytes_eq s.name l.name) l.entries)
