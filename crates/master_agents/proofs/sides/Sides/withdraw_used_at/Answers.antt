use Rattle.std.proofs.Common.{refl, ap, ◌∙◌}
use Rattle.cluster_model.specs.Sides.{without_used}
use Rattle.offer_tables.specs.Accounts as accounts
use Rattle.roster.specs.Places.{at_place}
use Rattle.master_agents.proofs.Joining.{fit_book, joined_book}
use Rattle.master_agents.proofs.Apart.{named_apart}
use Rattle.master_agents.proofs.sides.Sides.withdraw_used_at.Goals as goal

pub invariant_of-self : goal.invariant_of-self
invariant_of-self c = rw c.withdraw_named_at.ensures (fit_book c.args.place (accounts.without_named c.args.framework c.args.ids.now) (record { name = λ a. refl; present = λ a. refl }) (named_apart c.args.framework c.args.ids.now) c.self.inside.roster c.self.inside.book c.self.invariant)

pub returns : goal.returns
returns c =
    rw c.withdraw_named_at.ensures (joined_book c.args.place (accounts.without_named c.args.framework c.args.ids.now) (λ s. without_used s c.args.framework c.args.ids.now) (λ s a. refl) c.self.inside.roster c.self.inside.book c.self.invariant.one
    ∙ ap (at_place c.args.place (λ s. without_used s c.args.framework c.args.ids.now)) c.self.view_is)
