use Rattle.std.proofs.Common.{◌≡◌, [], fold, take}
use Rattle.offer_tables.specs.Held.{placed_of}
use Rattle.master_agents.specs.Looks.{all_placed}
use Rattle.master_calls.specs.Reconciles.{gathers_found}
use Rattle.master_calls.proofs.on_reconcile.gather_all.Given as goal

abbrev pub invariant-loop-key : goal.invariant-loop-key
invariant-loop-key l = l.live.entries ≡ fold (λ es k. gathers_found l.framework es (placed_of k (all_placed l.sides))) [] (take l.key-index l.key-items)
