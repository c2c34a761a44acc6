use Rattle.std.proofs.Common.{◌∙◌, [], List, subst}
use Rattle.cluster_model.specs.Steps.{Setup}
use Rattle.cluster_laws.specs.declared.item.Item.{Item}
use Rattle.cluster_channels.specs.declared.streams.kept.KeptStream.{KeptStream}
use Rattle.cluster_parts.specs.Masters.{Settles}
use Rattle.cluster_parts.proofs.opening.open_over.Goals as goal

pub returns-in-Ok-clause-opens : goal.returns-in-Ok-clause-opens
returns-in-Ok-clause-opens g c = λ weights.
    let setup : Setup = record { run = c.args.run; weights = weights } in
    let settles : Settles c.start_in-answer.result c.settle-made.result c.start_in-answer.new.master c.settle-made.new.self.master [] c.settle-made.new.self.items [] c.settle-made.new.self.streams =
    subst (λ (xs : List Item). Settles c.start_in-answer.result c.settle-made.result c.start_in-answer.new.master c.settle-made.new.self.master xs c.settle-made.new.self.items [] c.settle-made.new.self.streams) c.requires.items
    (subst (λ (ss : List KeptStream). Settles c.start_in-answer.result c.settle-made.result c.start_in-answer.new.master c.settle-made.new.self.master c.args.opened.now.served.items c.settle-made.new.self.items ss c.settle-made.new.self.streams) c.requires.streams c.settle-made.ensures.settled) in
    let made = c.openings_are_made.ensures.made setup c.args.config.now c.args.records.now c.start_in-answer.result c.settle-made.result c.start_in-answer.new.master c.settle-made.new.self.master c.settle-made.new.self.items c.settle-made.new.self.streams
    c.requires.agents c.requires.good c.start_in-answer.ensures settles c.in-Ok.is in
    record { agents = c.in_ok-agents.ensures ∙ c.openings_are_made.ensures.agents setup c.args.records.now; stands = made.0; in_run = c.openings_are_made.ensures.runs setup c.args.records.now; outputs = made.1 }
