use Rattle.std.proofs.Common.{List, option_map, find, ap, ◌∙◌}
use Rattle.messages.specs.declared.framework.Framework.{Framework}
use Rattle.cluster_model.specs.Calls.{is_stream}
use Rattle.master_state.specs.OpenStreams.{led_by}
use Rattle.master_state.proofs.Leading.{leads_there}
use Rattle.master_state.proofs.registry.table.Frameworks.subscriber_on.Goals as goal

pub returns : goal.returns
returns c =
    c.copied.ensures ∙ c.get.ensures.value
    ∙ leads_there (led_by c.self.inside.by_stream) c.self.inside.items.items c.args.stream c.self.invariant.0
    ∙ ap (λ (fs : List Framework). option_map (λ (f : Framework). f.id) (find (λ (f : Framework). is_stream c.args.stream f.stream) fs)) c.self.view_is
