use Rattle.std.proofs.Common.{[], ◌∷◌, ◌++◌}
use Rattle.desk_agents.specs.Rounds.{ticking}
use Rattle.desk_agents.proofs.Rounds.{rounds_then}
use Rattle.desk_agents.proofs.ticks.ticker.Goals as goal

pub loop-preserved : goal.loop-preserved
loop-preserved g c = (
  c.loop.invariant.0 ++ ticking c.round.new.seconds c.round.new.moment c.round.new.pass ∷ [],
  rounds_then g.D.Running.is_taken g.D.Running.is_refused g.S.Seconds.reads c.loop.invariant.0 (ticking c.args.seconds.now 0 c.args.pass) (ticking c.loop.seconds c.loop.moment c.loop.pass) (ticking c.round.new.seconds c.round.new.moment c.round.new.pass) c.loop.invariant.1 (c.round.ensures.whole c.if-not-round.false),
)

pub returns-then-not-round : goal.returns-then-not-round
returns-then-not-round g c = record {
  states = c.loop.invariant.0;
  before = ticking c.loop.seconds c.loop.moment c.loop.pass;
  moment = c.round.new.moment;
  rounds = c.loop.invariant.1;
  last = c.round.ensures.last;
}

pub returns-in_default : goal.returns-in_default
returns-in_default g c = record {
  states = c.loop.invariant.0;
  before = ticking c.loop.seconds c.loop.moment c.loop.pass;
  moment = c.round.new.moment;
  rounds = c.loop.invariant.1;
  last = c.round.ensures.last;
}
