use Rattle.cluster_parts.proofs.Greeting.{GreetLaws}
use Rattle.cluster_parts.proofs.Openings.{OpenLaws, agents_open, open_made, open_rise, open_run}
use Rattle.cluster_parts.proofs.opening.openings_are_made.Goals as goal

pub returns : goal.returns
returns c =
    let greet : GreetLaws = record {
      master = c.masters_step_alone.ensures.master;
      mails = c.masters_step_alone.ensures.mails;
      greets = c.masters_begin_with_greetings.ensures.greets;
    } in
    let laws : OpenLaws = record {
      greet = greet;
      fresh = c.fresh_masters_open.ensures;
      stand = c.opening_items_stand.ensures;
      parts = c.masters_leave_agents.ensures.opening;
    } in
    record { made = open_made laws; runs = open_run laws; agents = agents_open laws; rise = open_rise laws }
