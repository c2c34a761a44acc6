use Rattle.std.proofs.Common.{rules, ◌∙◌}
use Rattle.master_state.proofs.Ordered.{put_at, put_between, put_ordered}
use Rattle.master_state.proofs.registry.edit.put.Goals as goal

pub returns-then-is_at-clause-ok : goal.returns-then-is_at-clause-ok
returns-then-is_at-clause-ok c = put_at c.args.framework c.args.frameworks.now.items c.place_in-place.result (search rules) c.requires (search rules)

pub returns-then-is_at-clause-ordered : goal.returns-then-is_at-clause-ordered
returns-then-is_at-clause-ordered c = rw (put_at c.args.framework c.args.frameworks.now.items c.place_in-place.result (search rules) c.requires (search rules)) (put_ordered c.args.framework c.args.frameworks.now.items c.requires)

pub returns-in_ok-insert-clause-ok : goal.returns-in_ok-insert-clause-ok
returns-in_ok-insert-clause-ok c = c.in_ok-insert.ensures.items ∙ put_between c.args.framework c.args.frameworks.now.items c.place_in-place.result (search rules) c.requires (search rules)

pub returns-in_ok-insert-clause-ordered : goal.returns-in_ok-insert-clause-ordered
returns-in_ok-insert-clause-ordered c =
    rw (c.in_ok-insert.ensures.items ∙ put_between c.args.framework c.args.frameworks.now.items c.place_in-place.result (search rules) c.requires (search rules)) (put_ordered c.args.framework c.args.frameworks.now.items c.requires)
