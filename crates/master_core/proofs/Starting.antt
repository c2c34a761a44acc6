-- A master that begins a run: what is taken fits, and every agent is greeted.
use Rattle.std.proofs.Common.{◌≡◌, ℕ, suc, ◌≤◌, true, List, [], ◌∷◌, length, map, flat_map, refl, sym, ap, ◌∙◌, subst, arith, zero-le}
use Rattle.std.specs.List.{AllByRecursion}
use Rattle.cluster_model.specs.Sides.{Side, SendHello}
use Rattle.cluster_model.specs.Masters.{AtSide, Move, Moved, move_all, moved}
use Rattle.cluster_model.specs.Mails.{ticks}
use Rattle.master_agents.specs.declared.config.ConfiguredAgent.{ConfiguredAgent}
use Rattle.master_agents.specs.Changes.{side_of}
use Rattle.master_agents.specs.Configs.{are_ordered, most_agents}
use Rattle.master_agents.specs.Joined.{side_names}
use Rattle.master_agents.specs.ByName.{mails_at_tick}
use Rattle.master_state.specs.States.{fresh}
use Rattle.master_state.specs.Works.{master_of, run_of}
use Rattle.master_state.proofs.Moves.{moved_so}
use Rattle.master_core.proofs.Ticking.{all_ticked}
use Rattle.cluster_model.specs.Fits.{AllFitTotals, BookedBefore, OffersBefore, SidesFit}

totals_fit : (agents : List ConfiguredAgent) → AllFitTotals (map side_of agents)
totals_fit [] = tt
totals_fit (a ∷ agents) = (λ name. zero-le, totals_fit agents)

no_offers : (run : ℕ) (agents : List ConfiguredAgent) → AllByRecursion (OffersBefore (record { run = run; n = 1 })) (map side_of agents)
no_offers run [] = tt
no_offers run (a ∷ agents) = (tt, no_offers run agents)

no_tasks : (run : ℕ) (agents : List ConfiguredAgent) → AllByRecursion (BookedBefore (record { run = run; n = 1 })) (map side_of agents)
no_tasks run [] = tt
no_tasks run (a ∷ agents) = (tt, no_tasks run agents)

as_many : (agents : List ConfiguredAgent) → length (map side_of agents) ≡ length agents
as_many [] = refl
as_many (a ∷ agents) = ap suc (as_many agents)

pub fresh_fits : (run : ℕ) (agents : List ConfiguredAgent) → length agents ≤ most_agents → SidesFit (run_of (fresh run agents)) (fresh run agents).sides
fresh_fits run agents few = record {
  totals = totals_fit agents;
  ids = no_offers run agents;
  keys = no_tasks run agents;
  numbered = omega arith;
  few = subst (λ n. n ≤ 256) (sym (as_many agents)) few;
}

hello : Side → Move
hello s = AtSide s.name SendHello

hellos : (agents : List ConfiguredAgent) → map ticks (map side_of agents) ≡ map (λ s. AtSide s.name SendHello) (map side_of agents)
hellos [] = refl
hellos (a ∷ agents) = ap (λ ms. AtSide a.name SendHello ∷ ms) (hellos agents)

pub greets : (run : ℕ) (agents : List ConfiguredAgent) → are_ordered (side_names (map side_of agents)) ≡ true
    → flat_map (mails_at_tick run) (map side_of agents) ≡ (moved (master_of (fresh run agents)) (map (λ s. AtSide s.name SendHello) (map side_of agents))).sent
greets run agents ordered =
    let ss = map side_of agents in
    let all = all_ticked ss (run_of (fresh run agents)) [] ordered in
    sym (ap (λ (ms : List Move). (move_all ms (moved_so (run_of (fresh run agents)) ss [])).sent) (sym (hellos agents)) ∙ ap (λ (x : Moved). x.sent) all)
