use Rattle.cluster_parts.proofs.Sendings.{TakeLaws, take_made, take_refused}
use Rattle.cluster_parts.proofs.sends.takes_are_made.Goals as goal

pub returns : goal.returns
returns c =
    let laws : TakeLaws = record {
      stand = c.sent_items_stand.ensures;
      rising = c.streams_rise.ensures;
      next = c.kept_streams_are_found.ensures.next;
      answers = c.kept_streams_are_found.ensures.answers;
      takes = c.kept_streams_follow.ensures.takes;
      within = c.no_more_is_taken.ensures.takes;
    } in
    record { made = take_made laws; refused = take_refused laws }
