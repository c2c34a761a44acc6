use Rattle.std.proofs.Common.{sym, ◌∙◌}
use Rattle.cluster_channels.proofs.Standing.{stands_at, none_at}
use Rattle.cluster_channels.proofs.streams.places.stream_at.Goals as goal

pub returns : goal.returns
returns c = sym (stands_at c.args.id c.args.streams.now c.in_ok-place.place c.index-streams-place.result (sym c.place_of.ensures ∙ c.in_ok-place.was) c.index-streams-place.is).found

pub returns-in_err-place : goal.returns-in_err-place
returns-in_err-place c = rw c.from_residual.ensures (sym (none_at c.args.id c.args.streams.now (sym c.place_of.ensures ∙ c.in_err-place.was)))
