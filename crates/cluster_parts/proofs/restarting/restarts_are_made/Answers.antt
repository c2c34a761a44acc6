use Rattle.cluster_parts.proofs.Greeting.{GreetLaws}
use Rattle.cluster_parts.proofs.Restarts.{StopLaws, anew_made, anew_rise, last_halts}
use Rattle.cluster_parts.proofs.restarting.restarts_are_made.Goals as goal

pub returns : goal.returns
returns c =
    let greet : GreetLaws = record {
      master = c.masters_step_alone.ensures.master;
      mails = c.masters_step_alone.ensures.mails;
      greets = c.masters_begin_with_greetings.ensures.greets;
    } in
    let laws : StopLaws = record {
      greet = greet;
      stand = c.sent_items_stand.ensures;
      fresh = c.fresh_masters_open.ensures;
      state = c.masters_begin_with_greetings.ensures.state;
      mails = c.masters_begin_with_greetings.ensures.mails;
      master = c.masters_begin_with_greetings.ensures.master;
      parts = c.masters_leave_agents.ensures.stops;
      parts_fallen = c.masters_leave_agents.ensures.new_falls;
      receives = c.kept_streams_follow.ensures.receives;
      ids = c.kept_streams_follow.ensures.ids;
      rising = c.streams_rise.ensures;
    } in
    record { anew = anew_made laws; last = last_halts laws; rise = anew_rise laws }
