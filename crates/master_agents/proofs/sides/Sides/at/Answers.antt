use Rattle.std.proofs.Common.{length, slice_get, ap, ◌∙◌, arith}
use Rattle.master_agents.proofs.Reading.{joined_got, joined_lacks, joined_past}
use Rattle.master_agents.proofs.sides.Sides.at.Goals as goal

pub returns-then-place-entries : goal.returns-then-place-entries
returns-then-place-entries c =
    joined_past c.self.inside.roster c.self.inside.book c.args.place (omega (arith, c.if-place-entries.true, ap length c.entries-entries.ensures)) ∙ ap (λ ss. slice_get ss c.args.place) c.self.view_is

pub returns-in_default : goal.returns-in_default
returns-in_default c =
    joined_lacks c.self.inside.roster c.self.inside.book c.args.place c.in_default.ensures ∙ ap (λ ss. slice_get ss c.args.place) c.self.view_is

pub returns : goal.returns
returns c =
    let s = c.index-entries-place.result in
    joined_got c.self.inside.roster c.self.inside.book c.args.place s c.in-Some.account (omega (arith, c.if-place-entries.false, ap length c.entries-entries.ensures)) (rw c.entries-entries.ensures at c.index-entries-place.is) c.in-Some.ensures
    ∙ ap (λ ss. slice_get ss c.args.place) c.self.view_is
