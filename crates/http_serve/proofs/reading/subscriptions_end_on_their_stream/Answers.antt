use Rattle.http_serve.proofs.Subscriptions.{subscriptions_end}
use Rattle.http_serve.proofs.reading.subscriptions_end_on_their_stream.Goals as goal

pub returns : goal.returns
returns c = subscriptions_end
