use Rattle.std.proofs.Common.{sym, ◌∙◌, []}
use Rattle.messages.specs.declared.mail.AgentMail.TheVariants.{Update}
use Rattle.cluster_model.specs.Sides.{received, new_side}
use Rattle.master_agents.proofs.Looking.{named_at, unnamed}
use Rattle.master_agents.proofs.sides.Sides.receive_update.Goals as goal

pub returns-in-Some : goal.returns-in-Some
returns-in-Some c run =
    c.receive.ensures run
    ∙ named_at c.args.name.now (λ s. received run s (Update c.args.session c.args.update.now.key c.args.update.now.k c.args.update.now.state c.args.update.now.ended)) c.args.self.now c.in-Some.place (new_side []) (sym c.place_of.ensures ∙ c.in-Some.is)

pub returns-in_default : goal.returns-in_default
returns-in_default c run =
    unnamed c.args.name.now (λ s. received run s (Update c.args.session c.args.update.now.key c.args.update.now.k c.args.update.now.state c.args.update.now.ended)) c.args.self.now (sym c.place_of.ensures ∙ c.in_default.is)
