use Rattle.std.proofs.Common.{◌≡◌, sym, subst, ap, ◌∙◌}
use Rattle.quantity.specs.Rows.{amount}
use Rattle.drf_pick.specs.Shares.{Tally}
use Rattle.drf_pick.specs.Shown.{AllCounted, AreCounted, SameAllocations, WeightsShow, all_found, all_owned}
use Rattle.drf_pick.proofs.Reweighing.{weights_shown}
use Rattle.master_state.specs.LastRound.{clients_of}
use Rattle.master_rounds.specs.Allocations.{allocations_of}
use Rattle.master_rounds.specs.Owned.{totals_in}
use Rattle.master_rounds.proofs.Finding.{weighed}
use Rattle.master_rounds.proofs.shares.fill.shares_of.Goals as goal

pub returns-clause-shares : goal.returns-clause-shares
returns-clause-shares c =
    let ss = c.args.sides.now in
    let ws = c.args.weights.now in
    let fs = c.args.frameworks.now in
    let k = c.recount.new.counted in
    let other = c.weigh.new.counted in
    let same = c.as_slice.ensures.items ∙ c.take_shares-kept.ensures.same in
    let shares = c.in_ok-weigh.ensures.shares in
    let found = c.weigh.ensures.found in
    let items = ap (λ v. v.items) found in
    let counted : AreCounted (clients_of fs) k = c.in_ok-recount.ensures.counted (clients_of fs) (subst (λ xs. AreCounted (clients_of xs) c.register_all.new.counted) same c.in_ok-register_all.ensures.counted) in
    let after : AreCounted (clients_of fs) other = weighed ws (clients_of fs) k other shares found c.weigh.ensures.owned counted in
    let owned : all_owned other.owned.items ≡ totals_in ss =
    ap (λ v. all_owned v.items) (c.weigh.ensures.owned ∙ c.in_ok-recount.ensures.owned ∙ c.in_ok-register_all.ensures.owned) ∙ ap all_owned c.in_ok-own_all.ensures.entered in
    record {
      counted = after;
      all = subst AllCounted (sym items) c.in_ok-recount.ensures.all;
      found = subst (λ xs. SameAllocations (all_found xs) (allocations_of ss)) (sym items) c.in_ok-recount.ensures.found;
      totals = λ name. after.owned name ∙ ap (amount name) owned;
      positive = c.in_ok-weigh.ensures.sum.positive;
      weighed = c.in_ok-weigh.ensures.weighed;
      weights = subst (λ (t : Tally). WeightsShow ws t.roles) (sym shares) (weights_shown ws k.shares.roles);
    }
