use Rattle.std.proofs.Common.{◌≡◌, true, sym, subst, ◌∙◌}
use Rattle.quantity.specs.Rows.{covers}
use Rattle.messages.specs.declared.record.RecordParts.{RecordParts}
use Rattle.agent_core.specs.Records.{is_record}
use Rattle.agent_core.proofs.Recorded.{owning_recorded}
use Rattle.agent_core.proofs.state.State.owning.Goals as goal

pub make-requires : goal.make-requires
make-requires c =
    let copied = c.in_ok-parts.ensures ∙ c.parts.ensures.parts in
    owning_recorded c.args.total c.in_ok-parts.parts c.covers_is_at_least.ensures (subst (λ (d : RecordParts). covers c.args.total d.total ≡ true) (sym copied) c.requires) (subst (λ (d : RecordParts). is_record d ≡ true) (sym copied) c.parts.ensures.recorded)
