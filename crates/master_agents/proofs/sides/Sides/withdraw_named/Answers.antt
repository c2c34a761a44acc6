use Rattle.std.proofs.Common.{refl, ap, ◌∙◌, map}
use Rattle.cluster_model.specs.Sides.{is_named}
use Rattle.offer_tables.specs.Accounts as accounts
use Rattle.master_agents.specs.Looks.{withdrawing}
use Rattle.master_agents.proofs.Joining.{fit_map}
use Rattle.master_agents.proofs.NamedIds.{ids_name_offers}
use Rattle.master_agents.proofs.Apart.{joined_apart, named_apart, named_withdrawn}
use Rattle.master_agents.proofs.sides.Sides.withdraw_named.Goals as goal

pub invariant_of-self : goal.invariant_of-self
invariant_of-self c = rw c.withdraw_named.ensures (fit_map (accounts.without_named c.args.framework c.args.ids.now) (record { name = λ a. refl; present = λ a. refl }) (named_apart c.args.framework c.args.ids.now) c.self.inside.roster c.self.inside.book c.self.invariant)

pub returns : goal.returns
returns c =
    rw c.withdraw_named.ensures (joined_apart (accounts.without_named c.args.framework c.args.ids.now) (withdrawing (is_named c.args.framework c.args.ids.now)) (named_withdrawn ids_name_offers c.args.framework c.args.ids.now) c.self.inside.roster c.self.inside.book c.self.invariant.one c.self.invariant.apart
    ∙ ap (map (withdrawing (is_named c.args.framework c.args.ids.now))) c.self.view_is)
