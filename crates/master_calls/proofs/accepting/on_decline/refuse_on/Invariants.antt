use Rattle.std.proofs.Common.{◌≡◌, fold}
use Rattle.master_calls.specs.Declines.{refuses_if_own}
use Rattle.master_calls.proofs.accepting.on_decline.refuse_on.Given as goal

abbrev pub invariant-loop-offer : goal.invariant-loop-offer
invariant-loop-offer l = fold (refuses_if_own l.by l.id l.agent.name) l.frameworks l.offer-iterator ≡ fold (refuses_if_own l.by l.id l.agent.name) l.fn.frameworks l.agent.offers
