use Rattle.std.proofs.Common.{◌≡◌, true, sym, subst, ◌∙◌}
use Rattle.messages.specs.declared.record.RecordParts.{RecordParts}
use Rattle.agent_core.specs.Records.{is_record}
use Rattle.agent_core.proofs.Recorded.{session_recorded}
use Rattle.agent_core.proofs.state.State.reopened.Goals as goal

pub make-requires : goal.make-requires
make-requires c =
    let copied = c.in_ok-parts.ensures ∙ c.parts.ensures.parts in
    session_recorded c.in_ok-parts.parts c.args.session c.args.run (subst (λ (d : RecordParts). is_record d ≡ true) (sym copied) c.parts.ensures.recorded) c.requires
