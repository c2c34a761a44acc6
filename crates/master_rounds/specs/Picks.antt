-- The eligible framework that stands least.
use Rattle.std.specs.Prelude.{ℕ, if◌then◌else◌, List, filter, fold, Option, Some, None, option_map}
use Rattle.names_core.specs.Ids.{Numbered}
use Rattle.quantity.specs.declared.rows.Row.{Row}
use Rattle.messages.specs.declared.framework.Framework.{Framework}
use Rattle.cluster_model.specs.Rounds.{may_be_offered}
use Rattle.master_state.specs.LastRound.{clients_of}
use Rattle.drf_pick.specs.declared.holder.Client.{Client}
use Rattle.drf_pick.specs.declared.holder.Holder.{Holder}
use Rattle.drf_pick.specs.Shares.{Tally}
use Rattle.drf_pick.specs.Least.{comes_before, holder_for}

-- a framework with what it holds
abbrev pub framework_holder : Tally → Framework → Holder
framework_holder t f = holder_for t f.id f.role

abbrev pub better : Tally → Option Framework → Framework → Option Framework
better t None f = Some f
better t (Some g) f =
    if comes_before t (framework_holder t f) (framework_holder t g) then Some f else Some g

-- the better one of the best so far and a framework, if that is eligible
abbrev pub better_eligible : ℕ → List ℕ → List Row → Tally → Option Framework → Framework
    → Option Framework
better_eligible now agent free t best f =
    if may_be_offered now agent free f then better t best f else best

abbrev pub picked : ℕ → List ℕ → List Row → Tally → List Framework → Option Numbered
picked now agent free t fs =
    option_map (λ f. f.id) (fold (better_eligible now agent free t) None fs)

-- the clients to which what is free on an agent may be offered
abbrev pub eligible_clients : ℕ → List ℕ → List Row → List Framework → List Client
eligible_clients now agent free fs = clients_of (filter (may_be_offered now agent free) fs)
