use Rattle.std.proofs.Common.{◌≡◌, ℕ, ◌+◌, ◌++◌, ◌∷◌, [], true, List, Option, None, fold, take, IsTrue, sym, ap, ◌∙◌, rules}
use Rattle.std.specs.Prelude.{is_some}
use Rattle.std.specs.Option.{option_copied}
use Rattle.std.proofs.lemmas.Grind.{fold-append}
use Rattle.std.proofs.lemmas.List.{take_more}
use Rattle.messages.specs.declared.framework.Framework.{Framework}
use Rattle.master_rounds.specs.Picks.{better_eligible}
use Rattle.master_rounds.proofs.FirstFound.{found_so, none_found}
use Rattle.master_rounds.proofs.AtPlaces.{lent_at}
use Rattle.master_rounds.proofs.shares.pick.best_of.Goals as goal

pub better_eligible-best-requires-clause-candidate : goal.better_eligible-best-requires-clause-candidate
better_eligible-best-requires-clause-candidate c =
    let lookup = c.get-candidate.ensures.lookup in
    lent_at c.args.shares.now c.args.frameworks.now c.args.candidates.now c.loop-place.place c.index-frameworks-place.result c.get-candidate.result c.requires.candidates c.loop-place-test.true c.index-frameworks-place.is lookup.0 lookup.1

pub returns-then-is_nothing : goal.returns-then-is_nothing
returns-then-is_nothing c =
    let fs = c.args.frameworks.now in
    let best = option_copied c.better_eligible-best.result in
    let share = c.better_eligible-best.new.best_share in
    let f : Framework = c.index-frameworks-place.result in
    let chosen = better_eligible c.args.now c.args.agent.now c.args.free.now c.args.shares.now in
    let place : ℕ = c.loop-place.place in
    let next : take (place + 1) fs ≡ take place fs ++ f ∷ [] = take_more fs place f c.loop-place-test.true ∙ ap (λ (x : Framework). take place fs ++ x ∷ []) (sym c.index-frameworks-place.is) in
    let found : best ≡ fold chosen None (take (place + 1) fs) =
    c.better_eligible-best.ensures.better ∙ (ap (λ (o : Option Framework). chosen o f) c.loop-place.invariant.best ∙ sym (ap (λ (xs : List Framework). fold chosen None xs) next ∙ fold-append chosen None (take place fs) (f ∷ []))) in
    let role : IsTrue c.args.are_of_one_role = search rules in
    let some : is_some best ≡ true = search rules in
    let none : share.own.amount ≡ 0 = search rules in
    found_so c.args.now c.args.agent.now c.args.free.now c.args.shares.now fs (place + 1) best share c.requires.ordered (c.requires.role role) found c.better_eligible-best.ensures.share some none

pub loop-place-init : goal.loop-place-init
loop-place-init c = record {
  best = none_found c.args.now c.args.agent.now c.args.free.now c.args.shares.now (take c.args.first c.args.frameworks.now) c.requires.first;
  share = tt;
}
