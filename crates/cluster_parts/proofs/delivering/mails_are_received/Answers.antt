use Rattle.cluster_parts.proofs.Receiving.{ReceiveLaws, receive_fits, receive_made, receive_number, receive_refused, receive_rise}
use Rattle.cluster_parts.proofs.Mastering.{MasterLaws}
use Rattle.cluster_parts.proofs.delivering.mails_are_received.Goals as goal

pub returns : goal.returns
returns c =
    let more : MasterLaws = record {
      stand = c.sent_items_stand.ensures;
      master = c.masters_step_alone.ensures.master;
      mails = c.masters_step_alone.ensures.mails;
      parts = c.masters_leave_agents.ensures.does;
      parts_fallen = c.masters_leave_agents.ensures.falls;
      down = c.fallen_masters_do_not_serve.ensures.falls;
      receives = c.kept_streams_follow.ensures.receives;
      rising = c.streams_rise.ensures;
      ids = c.kept_streams_follow.ensures.ids;
      within = c.no_more_is_taken.ensures.receives;
    } in
    let laws : ReceiveLaws = record {
      more = more;
      to_agents = c.items_are_posts.ensures.to_agents;
      to_master = c.items_are_posts.ensures.to_master;
      none = c.items_are_posts.ensures.none;
      receives = c.masters_step_alone.ensures.receives;
      parts = c.masters_leave_agents.ensures.receives;
      run = c.masters_stay_in_their_run.ensures.mails;
      named = c.named_agents_are_found.ensures.mails;
      number = c.mails_of_agents_fit.ensures.number;
      fits = c.mails_of_agents_fit.ensures.fits;
    } in
    record {
      made = λ c number to before after answered made n items js ss ts mail. receive_made laws c number to before after answered made n items js ss ts mail.reached mail.stands mail.item;
      rise = λ c number to before after answered items ss mail. receive_rise laws c number to before after answered items ss mail.reached mail.stands mail.item;
      number = λ c number to master items ss mail. receive_number laws c number to master items ss mail.reached mail.stands mail.item;
      fits = λ c number to before items ss mail. receive_fits laws c number to before items ss mail.reached mail.stands mail.item;
      refused = receive_refused laws;
    }
