use Rattle.std.proofs.Common.{◌∙◌}
use Rattle.master_state.proofs.registry.starts.SearchHints.passed_over.Goals as goal

pub returns-in_err-start-clause-starts : goal.returns-in_err-start-clause-starts
returns-in_err-start-clause-starts c = c.take-kept.ensures.rest c.args.frameworks.now c.requires

pub go_on-requires-clause-start : goal.go_on-requires-clause-start
go_on-requires-clause-start c = c.in_ok-start.ensures.start c.args.frameworks.now (c.take-kept.ensures.taken c.args.frameworks.now c.requires)

pub returns-in_err-put-clause-starts : goal.returns-in_err-put-clause-starts
returns-in_err-put-clause-starts c = c.in_err-put.ensures c.args.frameworks.now (c.take-kept.ensures.rest c.args.frameworks.now c.requires) c.go_on.ensures.start

pub returns-clause-first : goal.returns-clause-first
returns-clause-first c =
    rw (c.go_on.ensures.agent ∙ c.in_ok-start.ensures.agent, c.go_on.ensures.free ∙ c.in_ok-start.ensures.free) at c.go_on.ensures.start c.args.now c.go_on.ensures.later

pub returns-clause-starts : goal.returns-clause-starts
returns-clause-starts c = c.in_ok-put.ensures c.args.frameworks.now (c.take-kept.ensures.rest c.args.frameworks.now c.requires) c.go_on.ensures.start
