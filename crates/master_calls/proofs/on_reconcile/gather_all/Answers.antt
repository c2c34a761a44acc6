use Rattle.std.proofs.Common.{[], fold, ap, ◌∙◌}
use Rattle.std.proofs.lemmas.List.{take_all}
use Rattle.offer_tables.specs.Held.{placed_of}
use Rattle.master_agents.specs.Looks.{all_placed}
use Rattle.master_calls.specs.Reconciles.{gathers_found}
use Rattle.master_calls.proofs.Gathering.{gathered_by_keys}
use Rattle.master_calls.proofs.on_reconcile.gather_all.Goals as goal

pub returns : goal.returns
returns c =
    let all = all_placed c.args.sides.now in
    let keys = c.in_ok-keys.keys.items in
    c.loop-key.invariant
    ∙ ap (λ ks. fold (λ es k. gathers_found c.args.framework es (placed_of k all)) [] ks) (take_all c.loop-key.key-index c.as_slice-key-items.result.now c.loop-key-test.false ∙ c.as_slice-key-items.ensures.value)
    ∙ gathered_by_keys c.args.framework all keys c.in_ok-keys.ensures.apart c.in_ok-keys.ensures.keys
