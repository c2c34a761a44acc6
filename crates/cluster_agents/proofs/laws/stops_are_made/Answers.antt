use Rattle.cluster_agents.proofs.Making.{Laws}
use Rattle.cluster_agents.proofs.Stopping.{stop_after, stop_before, stop_unknown, stop_without_draft}
use Rattle.cluster_agents.proofs.laws.stops_are_made.Goals as goal

pub returns : goal.returns
returns c =
    let laws : Laws = record {
      once = c.agents_keep_their_names.ensures.once;
      stand = c.sent_items_stand.ensures;
      master = c.agents_leave_the_others.ensures.master;
      one = c.agents_leave_the_others.ensures.agents;
      silent = c.commits_send_drafts.ensures.silent;
      commits = c.commits_send_drafts.ensures.commits;
      draws = c.steps_move_agents.ensures.draws;
      draws_mail = c.steps_move_agents.ensures.draws_mail;
      adopts = c.steps_move_agents.ensures.adopts;
      stops_without = c.steps_move_agents.ensures.stops_without;
      stops_with = c.steps_move_agents.ensures.stops_with;
    } in
    record {
      before = λ c name place a sent reached stand there. stop_before laws c name place a sent reached stand there.0 there.1;
      after = λ c name place a d sent reached stand there. stop_after laws c name place a d sent reached stand there.0 there.1;
      unknown = stop_unknown;
      without = λ c name place a there. stop_without_draft c name place a there.0 there.1;
    }
