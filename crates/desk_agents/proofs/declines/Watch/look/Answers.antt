use Rattle.std.proofs.lemmas.List.Elements.{All-same}
use Rattle.desk_agents.specs.Declines.{WasOpen}
use Rattle.desk_agents.proofs.Unanswered.{each_was_open}
use Rattle.desk_agents.proofs.declines.Watch.look.Goals as goal

pub decline_due-requires : goal.decline_due-requires
decline_due-requires g c =
    All-same (WasOpen g.D.Recorded.history g.D.Recorded.sound g.D.Running.offers_of) c.deref-then-is_ok.result.now c.in-Ok.offers.items c.deref-then-is_ok.ensures.value
    (each_was_open g.D.Recorded.history g.D.Recorded.sound g.D.Running.offers_of c.in-Ok.offers.items c.in-Ok.ensures)
