use Rattle.cluster_laws.proofs.Streams.{history_streams}
use Rattle.cluster_laws.proofs.runs.streams_rise.Goals as goal

pub returns : goal.returns
returns c = history_streams
