use Rattle.std.proofs.Common.{refl, ap, sym, ◌∙◌, [], None, subst}
use Rattle.messages.specs.declared.mail.AgentMail.TheVariants.{Applied}
use Rattle.cluster_model.specs.Mails.{in_session}
use Rattle.cluster_model.specs.Sides.{received}
use Rattle.offer_tables.specs.Accounts as accounts
use Rattle.master_agents.specs.Joined as joins
use Rattle.roster.specs.Faults.{IsAppliedRefusal}
use Rattle.roster.specs.Places.{at_place, value_at}
use Rattle.roster.specs.Sessions.{after_applied, newly}
use Rattle.master_agents.proofs.Joining.{fit_book, fit_roster, joined_by, joined_told}
use Rattle.master_agents.proofs.Changing.{applied_joins, applied_keeps}
use Rattle.master_agents.proofs.sides.Sides.applied.Goals as goal

pub invariant_of-self-2 : goal.invariant_of-self-2
invariant_of-self-2 c =
    rw (c.in-Ok.ensures.ok, c.forget_by_at.ensures)
    (fit_roster c.args.place (after_applied c.args.session c.args.count) (applied_keeps c.args.session c.args.count) c.self.inside.roster (joins.at_place c.args.place (accounts.after_commands c.deref.result.now) c.self.inside.book)
    (fit_book c.args.place (accounts.after_commands c.deref.result.now) (record { name = λ a. refl; present = λ a. refl }) (λ a h. h) c.self.inside.roster c.self.inside.book c.self.invariant))

pub returns-clause-ok : goal.returns-clause-ok
returns-clause-ok c run =
    rw (c.in-Ok.ensures.ok, c.forget_by_at.ensures, c.deref.ensures.value ∙ c.in-Ok.ensures.newly)
    (joined_by c.args.place (after_applied c.args.session c.args.count) (λ s. received run s (Applied c.args.session c.args.count)) accounts.after_commands (newly c.args.session c.args.count) [] (applied_joins run c.args.session c.args.count) c.self.inside.roster c.self.inside.book c.self.invariant.one
    ∙ ap (at_place c.args.place (λ s. received run s (Applied c.args.session c.args.count))) c.self.view_is)

pub returns-clause-judged : goal.returns-clause-judged
returns-clause-judged c =
    sym (joined_told c.args.place (λ s. in_session s c.args.session) None (λ s a. refl) c.self.inside.roster c.self.inside.book c.self.invariant.one ∙ ap (value_at c.args.place (λ s. in_session s c.args.session) None) c.self.view_is) ∙ c.in-Ok.ensures.judged

pub returns-in-Err-clause-refused : goal.returns-in-Err-clause-refused
returns-in-Err-clause-refused c =
    subst (λ due. IsAppliedRefusal due c.in-Err.fault) (joined_told c.args.place (λ s. in_session s c.args.session) None (λ s a. refl) c.self.inside.roster c.self.inside.book c.self.invariant.one ∙ ap (value_at c.args.place (λ s. in_session s c.args.session) None) c.self.view_is) c.in-Err.ensures.refused

pub forget_by_at-requires : goal.forget_by_at-requires
forget_by_at-requires c =
    rw (c.entries.ensures, c.in-Ok.ensures.ok)
    (fit_roster c.args.place (after_applied c.args.session c.args.count) (applied_keeps c.args.session c.args.count) c.self.inside.roster c.self.inside.book c.self.invariant)
