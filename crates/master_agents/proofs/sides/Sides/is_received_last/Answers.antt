use Rattle.std.proofs.Common.{zero, slice_get, sym, ap, ◌∙◌, arith}
use Rattle.std.specs.List.{list_any}
use Rattle.master_agents.specs.Looks.{all_placed, is_received_last}
use Rattle.master_agents.proofs.Reading.{last_at, last_lacks, last_nowhere}
use Rattle.master_agents.proofs.sides.Sides.is_received_last.Goals as goal

pub returns-in_default : goal.returns-in_default
returns-in_default c =
    sym (ap (λ ss. list_any (is_received_last c.args.framework c.args.agent.now c.args.name.now c.args.key c.args.k) (all_placed ss)) (sym c.self.view_is)
    ∙ last_nowhere c.args.framework c.args.agent.now c.args.name.now c.args.key c.args.k c.self.inside.roster c.self.inside.book c.in_default.ensures)

pub returns-in-Some-at : goal.returns-in-Some-at
returns-in-Some-at c =
    let e = c.in-Some.located.now in
    let s = c.in-Some-at.side in
    c.is_received_last.ensures
    ∙ ap (λ n. is_received_last c.args.framework c.args.agent.now c.args.name.now c.args.key c.args.k (record { agent = n; booked = e.item })) c.name.ensures
    ∙ sym (ap (λ ss. list_any (is_received_last c.args.framework c.args.agent.now c.args.name.now c.args.key c.args.k) (all_placed ss)) (sym c.self.view_is)
    ∙ last_at c.args.framework c.args.agent.now c.args.name.now c.args.key c.args.k zero e.place e.place e.item c.self.inside.roster c.self.inside.book s (omega arith) c.in-Some.ensures.1 c.in-Some.ensures.2
    (c.in-Some-at.ensures ∙ ap (λ ss. slice_get ss e.place) (sym c.self.view_is)))

pub returns-in-None : goal.returns-in-None
returns-in-None c =
    let e = c.in-Some.located.now in
    absurd (last_lacks c.args.framework c.args.agent.now c.args.name.now c.args.key c.args.k e.place c.self.inside.roster c.self.inside.book c.self.invariant.one c.in-Some.ensures.2
    (c.in-None.ensures ∙ ap (λ ss. slice_get ss e.place) (sym c.self.view_is)))
