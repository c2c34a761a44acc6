-- A master without agents.
use Rattle.std.proofs.Common.{◌≡◌, ℕ, List, [], sym, ap, ◌∙◌, subst, arith}
use Rattle.master_agents.specs.declared.config.ConfiguredAgent.{ConfiguredAgent}
use Rattle.cluster_model.specs.Fits.{SidesFit}
use Rattle.master_state.specs.declared.state.State.{State}
use Rattle.master_state.specs.States.{fresh}
use Rattle.master_state.specs.Works.{run_of}

none_fit : (run : ℕ) → SidesFit (run_of (fresh run [])) (fresh run []).sides
none_fit run = record { totals = tt; ids = tt; keys = tt; numbered = omega arith; few = omega arith }

pub fresh_fits : (s : State) (run : ℕ) (agents : List ConfiguredAgent) → s ≡ fresh run agents → agents ≡ [] → SidesFit (run_of s) s.sides
fresh_fits s run agents is none = subst (λ (t : State). SidesFit (run_of t) t.sides) (sym (is ∙ ap (fresh run) none)) (none_fit run)
