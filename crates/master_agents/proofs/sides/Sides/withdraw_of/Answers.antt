use Rattle.std.proofs.Common.{refl, ap, ◌∙◌, map}
use Rattle.cluster_model.specs.Masters.{is_of}
use Rattle.offer_tables.specs.Accounts as accounts
use Rattle.master_agents.specs.Looks.{withdrawing}
use Rattle.master_agents.proofs.Joining.{fit_map}
use Rattle.master_agents.proofs.NamedIds.{ids_name_offers}
use Rattle.master_agents.proofs.Apart.{joined_apart, of_apart, of_withdrawn}
use Rattle.master_agents.proofs.sides.Sides.withdraw_of.Goals as goal

pub invariant_of-self : goal.invariant_of-self
invariant_of-self c = rw c.withdraw_of.ensures (fit_map (accounts.without_offers_of c.args.framework) (record { name = λ a. refl; present = λ a. refl }) (of_apart c.args.framework) c.self.inside.roster c.self.inside.book c.self.invariant)

pub returns : goal.returns
returns c =
    rw c.withdraw_of.ensures (joined_apart (accounts.without_offers_of c.args.framework) (withdrawing (is_of c.args.framework)) (of_withdrawn ids_name_offers c.args.framework) c.self.inside.roster c.self.inside.book c.self.invariant.one c.self.invariant.apart
    ∙ ap (map (withdrawing (is_of c.args.framework))) c.self.view_is)
