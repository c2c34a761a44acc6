use Rattle.cluster_parts.proofs.Mastering.{MasterLaws, answer_made, streams_then_rise}
use Rattle.cluster_parts.proofs.master_laws.answers_are_made.Goals as goal

pub returns : goal.returns
returns c =
    let more : MasterLaws = record {
      stand = c.sent_items_stand.ensures;
      master = c.masters_step_alone.ensures.master;
      mails = c.masters_step_alone.ensures.mails;
      parts = c.masters_leave_agents.ensures.does;
      parts_fallen = c.masters_leave_agents.ensures.falls;
      down = c.fallen_masters_do_not_serve.ensures.falls;
      receives = c.kept_streams_follow.ensures.receives;
      rising = c.streams_rise.ensures;
      ids = c.kept_streams_follow.ensures.ids;
      within = c.no_more_is_taken.ensures.receives;
    } in
    record { made = answer_made more; rise = streams_then_rise more }
