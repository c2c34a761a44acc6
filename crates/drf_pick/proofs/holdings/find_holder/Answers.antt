use Rattle.std.proofs.Common.{sym, ◌∙◌}
use Rattle.drf_pick.specs.Shares.{is_holder}
use Rattle.drf_pick.proofs.Places.{first_at, none_at}
use Rattle.drf_pick.proofs.holdings.find_holder.Goals as goal

pub returns : goal.returns
returns c = sym (first_at (is_holder c.args.framework) c.args.holders.now c.in_ok-place.place c.index-holders-place.result (sym c.holder_near.ensures ∙ c.in_ok-place.was) c.index-holders-place.is).found

pub returns-in_err-place : goal.returns-in_err-place
returns-in_err-place c = rw c.from_residual.ensures (sym (none_at (is_holder c.args.framework) c.args.holders.now (sym c.holder_near.ensures ∙ c.in_err-place.was)))
