use Rattle.replay_core.proofs.replaying.replay_with.Goals as goal

pub returns-in-Err-Memory-clause-err : goal.returns-in-Err-Memory-clause-err
returns-in-Err-Memory-clause-err g c = rw c.requires at c.in-Err-Memory.ensures.err

pub returns-in-Err-Device-clause-err : goal.returns-in-Err-Device-clause-err
returns-in-Err-Device-clause-err g c = rw c.requires at c.in-Err-Device.ensures.err
