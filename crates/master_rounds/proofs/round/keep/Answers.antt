use Rattle.std.proofs.Common.{ap, ◌∙◌}
use Rattle.quantity.specs.Rows.{amount}
use Rattle.drf_pick.specs.Shown.{counted_of}
use Rattle.master_state.specs.LastRound.{clients_of}
use Rattle.master_rounds.proofs.Registered.{clients_once}
use Rattle.master_rounds.proofs.round.keep.Goals as goal

pub keep_shares-requires : goal.keep_shares-requires
keep_shares-requires c =
    let fs = c.args.state.now.frameworks in
    let once = clients_once fs c.as_slice-ordered.ensures.ordered in
    record {
      once = once;
      shown = c.in-Ok.ensures.shown (clients_of fs) (counted_of c.args.counted.found.items) once c.requires.shown;
      owned = λ name. ap (amount name) c.take_back_made.ensures.totals ∙ c.requires.owned name;
    }
