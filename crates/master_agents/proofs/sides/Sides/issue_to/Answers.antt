use Rattle.std.proofs.Common.{ap, sym, ◌∙◌, subst, None, Some, false, []}
use Rattle.cluster_model.specs.Sides.{new_side}
use Rattle.roster.specs.Faults.{IsIssueRefusal}
use Rattle.roster.specs.Sessions.{is_spent, with_command}
use Rattle.master_agents.specs.Looks.{next_command}
use Rattle.master_agents.proofs.Looking.{named_at, numbered, told_named, unnamed, untold}
use Rattle.master_agents.proofs.sides.Sides.issue_to.Goals as goal

pub returns-in_default-clause-number : goal.returns-in_default-clause-number
returns-in_default-clause-number c = untold c.args.name.now next_command None c.args.self.now (sym c.place_of.ensures ∙ c.in_default.is)

pub returns-in_default-clause-ok : goal.returns-in_default-clause-ok
returns-in_default-clause-ok c = unnamed c.args.name.now (with_command c.args.command) c.args.self.now (sym c.place_of.ensures ∙ c.in_default.is)

pub returns-in-Ok-None-clause-number : goal.returns-in-Ok-None-clause-number
returns-in-Ok-None-clause-number c =
    numbered c.in-Some.place c.args.self.now None (sym c.in-Ok-None.field-0-is ∙ c.in-Ok-None.ensures.number)
    ∙ told_named c.args.name.now next_command None c.args.self.now c.in-Some.place (new_side []) (sym c.place_of.ensures ∙ c.in-Some.is)

pub returns-in-Ok-None-clause-ok : goal.returns-in-Ok-None-clause-ok
returns-in-Ok-None-clause-ok c = c.in-Ok-None.ensures.ok ∙ named_at c.args.name.now (with_command c.args.command) c.args.self.now c.in-Some.place (new_side []) (sym c.place_of.ensures ∙ c.in-Some.is)

pub returns-in-Ok-Some-clause-number : goal.returns-in-Ok-Some-clause-number
returns-in-Ok-Some-clause-number c =
    ap (λ session. Some (session, c.in-Ok-Some.number)) c.session_at-session.ensures
    ∙ numbered c.in-Some.place c.args.self.now (Some c.in-Ok-Some.number) (sym c.in-Ok-Some.field-0-is ∙ c.in-Ok-Some.ensures.number)
    ∙ told_named c.args.name.now next_command None c.args.self.now c.in-Some.place (new_side []) (sym c.place_of.ensures ∙ c.in-Some.is)

pub returns-in-Ok-Some-clause-ok : goal.returns-in-Ok-Some-clause-ok
returns-in-Ok-Some-clause-ok c = c.in-Ok-Some.ensures.ok ∙ named_at c.args.name.now (with_command c.args.command) c.args.self.now c.in-Some.place (new_side []) (sym c.place_of.ensures ∙ c.in-Some.is)

pub returns-in-Err-clause-refused : goal.returns-in-Err-clause-refused
returns-in-Err-clause-refused c =
    subst (λ b. IsIssueRefusal b c.in-Err.fault) (told_named c.args.name.now is_spent false c.args.self.now c.in-Some.place (new_side []) (sym c.place_of.ensures ∙ c.in-Some.is)) c.in-Err.ensures.refused
