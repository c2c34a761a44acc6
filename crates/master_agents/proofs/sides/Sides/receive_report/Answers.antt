use Rattle.std.proofs.Common.{false, sym, ◌∙◌, []}
use Rattle.cluster_model.specs.Sides.{new_side}
use Rattle.roster.specs.Sessions.{report_opens}
use Rattle.master_agents.specs.Changes.{reporting}
use Rattle.master_agents.proofs.Joining.{on_ok}
use Rattle.master_agents.proofs.Looking.{named_at, told_named, unnamed}
use Rattle.master_agents.proofs.Reporting.{bookable_there}
use Rattle.master_agents.proofs.sides.Sides.receive_report.Goals as goal

pub report-requires : goal.report-requires
report-requires c opens =
    let at = sym c.place_of.ensures ∙ c.in-Some.is in
    bookable_there c.args.name.now c.args.tasks c.args.total c.args.self.now c.in-Some.place at
    (c.requires (sym (told_named c.args.name.now (λ s. report_opens c.args.run s c.args.session c.args.number) false c.args.self.now c.in-Some.place (new_side []) at) ∙ opens))

pub returns-in-Some : goal.returns-in-Some
returns-in-Some c =
    on_ok c.report.result
    (λ e. e ∙ named_at c.args.name.now (reporting c.args.run c.args.session c.args.number c.args.tasks c.args.total) c.args.self.now c.in-Some.place (new_side []) (sym c.place_of.ensures ∙ c.in-Some.is))
    c.report.ensures

pub returns-in-None : goal.returns-in-None
returns-in-None c = unnamed c.args.name.now (reporting c.args.run c.args.session c.args.number c.args.tasks c.args.total) c.args.self.now (sym c.place_of.ensures ∙ c.in-None.is)
