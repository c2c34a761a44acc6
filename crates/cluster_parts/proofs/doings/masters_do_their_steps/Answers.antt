use Rattle.cluster_parts.proofs.StepsDone.{DoingLaws, does_calls, does_hang_ups, does_losses, does_rounds, does_ticks}
use Rattle.cluster_parts.proofs.doings.masters_do_their_steps.Goals as goal

pub returns : goal.returns
returns c =
    let laws : DoingLaws = record {
      calls = c.masters_stay_in_their_run.ensures.calls;
      rounds = c.masters_stay_in_their_run.ensures.rounds;
      ticks = c.masters_stay_in_their_run.ensures.ticks;
      losses = c.masters_stay_in_their_run.ensures.losses;
      hang_ups = c.masters_stay_in_their_run.ensures.hang_ups;
      alone_calls = c.refusals_stand_alone.ensures.calls;
      alone_rounds = c.refusals_stand_alone.ensures.rounds;
      alone_ticks = c.refusals_stand_alone.ensures.ticks;
      alone_losses = c.refusals_stand_alone.ensures.losses;
      alone_hang_ups = c.refusals_stand_alone.ensures.hang_ups;
      lost = c.named_agents_are_found.ensures.losses;
    } in
    record { calls = does_calls laws; rounds = does_rounds laws; ticks = does_ticks laws; losses = does_losses laws; hang_ups = does_hang_ups laws }
