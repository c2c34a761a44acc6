use Rattle.std.proofs.Common.{rules}
use Rattle.http_serve.proofs.bench.SeatBenchBench.next_events.Goals as goal

pub returns-in-Ok-None : goal.returns-in-Ok-None
returns-in-Ok-None g c = (search rules, c.in-Ok-None.ensures.ended c.in-Ok-None.field-0-is)
