use Rattle.std.proofs.Common.{sym, ◌∙◌}
use Rattle.master_agents.proofs.Owning.{open_good, shut_good}
use Rattle.master_agents.proofs.own.is_good.Goals as goal

pub returns-then-not-is_open : goal.returns-then-not-is_open
returns-then-not-is_open c = shut_good c.args.framework c.args.ids.now c.args.side.now (sym c.is_open.ensures ∙ c.if-not-is_open.true)

pub returns : goal.returns
returns c = c.are_good.ensures ∙ open_good c.args.framework c.args.ids.now c.args.side.now (sym c.is_open.ensures ∙ c.if-not-is_open.false)
