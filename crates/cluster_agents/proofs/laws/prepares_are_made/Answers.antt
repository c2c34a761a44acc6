use Rattle.cluster_agents.proofs.Making.{Laws}
use Rattle.cluster_agents.proofs.Preparing.{MoreLaws, prepare_astray, prepare_down, prepare_made, prepare_opened, prepare_refused, prepare_unknown, prepare_withheld}
use Rattle.cluster_agents.proofs.laws.prepares_are_made.Goals as goal

pub returns : goal.returns
returns c =
    let laws : Laws = record {
      once = c.agents_keep_their_names.ensures.once;
      stand = c.sent_items_stand.ensures;
      master = c.agents_leave_the_others.ensures.master;
      one = c.agents_leave_the_others.ensures.agents;
      silent = c.commits_send_drafts.ensures.silent;
      commits = c.commits_send_drafts.ensures.commits;
      draws = c.steps_move_agents.ensures.draws;
      draws_mail = c.steps_move_agents.ensures.draws_mail;
      adopts = c.steps_move_agents.ensures.adopts;
      stops_without = c.steps_move_agents.ensures.stops_without;
      stops_with = c.steps_move_agents.ensures.stops_with;
    } in
    let more : MoreLaws = record {
      laws = laws;
      recorded = c.agents_keep_their_names.ensures.recorded;
      calls = c.items_are_posts.ensures.calls;
      to_agents = c.items_are_posts.ensures.to_agents;
      to_master = c.items_are_posts.ensures.to_master;
      none = c.items_are_posts.ensures.none;
    } in
    record {
      made = λ c name place a new cause given verdict sent reached stand there. prepare_made more c name place a new cause given verdict sent reached stand there.0 there.1;
      astray = λ c name place a cause sent reached stand there. prepare_astray more c name place a cause sent reached stand there.0 there.1;
      unknown = prepare_unknown;
      down = λ c name place a asked there. prepare_down c name place a asked there.0 there.1;
      opened = λ c name place a asked there. prepare_opened c name place a asked there.0 there.1;
      refused = λ c name place a cause fault sent stand there. prepare_refused more c name place a cause fault sent stand there.0 there.1;
      withheld = λ c name place a cause gives there. prepare_withheld c name place a cause gives there.0 there.1;
    }
