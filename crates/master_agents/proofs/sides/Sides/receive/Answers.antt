use Rattle.std.proofs.Common.{refl, ap, sym, ◌∙◌, true, false}
use Rattle.messages.specs.declared.mail.AgentMail.TheVariants.{Update}
use Rattle.cluster_model.specs.Sides.{received}
use Rattle.offer_tables.specs.Accounts as accounts
use Rattle.roster.specs.Places.{at_place, value_at}
use Rattle.master_agents.specs.Looks.{is_session}
use Rattle.master_agents.proofs.Joining.{fit_book, joined_same, joined_where}
use Rattle.master_agents.proofs.Changing.{receiving_joins, receiving_stays}
use Rattle.master_agents.proofs.sides.Sides.receive.Goals as goal

pub invariant_of-self : goal.invariant_of-self
invariant_of-self c = rw c.receive_at.ensures
    (fit_book c.args.place (accounts.receiving c.args.update.now.key c.args.update.now.k c.args.update.now.state c.args.update.now.ended) (record { name = λ a. refl; present = λ a. refl }) (λ a h. h) c.self.inside.roster c.self.inside.book c.self.invariant)

pub returns-then-is_session_in : goal.returns-then-is_session_in
returns-then-is_session_in c run =
    rw c.receive_at.ensures
    (joined_where c.args.place (λ s. received run s (Update c.args.session c.args.update.now.key c.args.update.now.k c.args.update.now.state c.args.update.now.ended)) (accounts.receiving c.args.update.now.key c.args.update.now.k c.args.update.now.state c.args.update.now.ended) (is_session c.args.session) false true
    (receiving_joins run c.args.session c.args.update.now.key c.args.update.now.k c.args.update.now.state c.args.update.now.ended) c.self.inside.roster c.self.inside.book c.self.invariant.one
    (sym (c.is_session_in.ensures ∙ ap (value_at c.args.place (is_session c.args.session) false) c.entries.ensures) ∙ c.if-is_session_in.true)
    ∙ ap (at_place c.args.place (λ s. received run s (Update c.args.session c.args.update.now.key c.args.update.now.k c.args.update.now.state c.args.update.now.ended))) c.self.view_is)

pub returns-else-is_session_in : goal.returns-else-is_session_in
returns-else-is_session_in c run =
    sym c.self.view_is
    ∙ joined_same c.args.place (λ s. received run s (Update c.args.session c.args.update.now.key c.args.update.now.k c.args.update.now.state c.args.update.now.ended)) (is_session c.args.session) false false
    (receiving_stays run c.args.session c.args.update.now.key c.args.update.now.k c.args.update.now.state c.args.update.now.ended) c.self.inside.roster c.self.inside.book c.self.invariant.one
    (sym (c.is_session_in.ensures ∙ ap (value_at c.args.place (is_session c.args.session) false) c.entries.ensures) ∙ c.if-is_session_in.false)
    ∙ ap (at_place c.args.place (λ s. received run s (Update c.args.session c.args.update.now.key c.args.update.now.k c.args.update.now.state c.args.update.now.ended))) c.self.view_is
