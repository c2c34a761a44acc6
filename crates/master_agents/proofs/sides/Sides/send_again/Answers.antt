use Rattle.std.proofs.Common.{◌++◌, flat_map, refl, ap, ◌∙◌}
use Rattle.master_agents.specs.ByName.{mails_at_tick}
use Rattle.master_agents.proofs.Joining.{on_ok}
use Rattle.master_agents.proofs.AtNames.{flat_joined}
use Rattle.master_agents.proofs.sides.Sides.send_again.Goals as goal

pub returns : goal.returns
returns c = on_ok c.send_all.result
    (λ e. e
    ∙ ap (λ xs. c.args.mails.now ++ xs) (ap (flat_map (mails_at_tick c.args.run)) c.entries.ensures
    ∙ flat_joined (mails_at_tick c.args.run) (λ s a. refl) c.self.inside.roster c.self.inside.book c.self.invariant.one
    ∙ ap (flat_map (mails_at_tick c.args.run)) c.self.view_is))
    c.send_all.ensures
