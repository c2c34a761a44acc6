-- What DECLINE makes of the frameworks' table, offer by offer.
use Rattle.std.specs.Prelude.{ℕ, Bool, ◌&&◌, if◌then◌else◌, List, [], ◌∷◌, ◌++◌, fold, map}
use Rattle.names_core.specs.Ids.{Numbered, same}
use Rattle.quantity.specs.declared.rows.Row.{Row}
use Rattle.messages.specs.declared.task.Offer.{Offer}
use Rattle.messages.specs.declared.framework.Framework.{Framework}
use Rattle.cluster_model.specs.Ids.{is_among}
use Rattle.cluster_model.specs.Masters.{is_of}
use Rattle.master_state.specs.Frameworks.{changed, with_filter}
use Rattle.master_agents.specs.Own.{Holding}
pub use Rattle.master_calls.specs.declared.accepting.on_decline.Refuser.{Refuser}

-- rows of an agent are refused
abbrev pub refuses : Refuser → List ℕ → List Row → List Framework → List Framework
refuses by agent rows fs =
    map (changed (with_filter by.moment by.seconds agent rows) by.framework) fs

abbrev pub is_own : Numbered → Numbered → Offer → Bool
is_own framework id o = is_of framework o && same o.id id

abbrev pub refuses_if_own : Refuser → Numbered → List ℕ → List Framework → Offer → List Framework
refuses_if_own by id agent fs o =
    if is_own by.framework id o then refuses by agent o.resources fs else fs

-- own offers of an id on one agent
abbrev pub refuses_on : Refuser → Numbered → List Framework → Holding → List Framework
refuses_on by id fs h = fold (refuses_if_own by id h.agent) fs h.offers

-- and on all agents
abbrev pub refuses_id : Refuser → List Holding → List Framework → Numbered → List Framework
refuses_id by hs fs id = fold (refuses_on by id) fs hs

-- of several ids, those that weren't seen before
abbrev pub refuses_each : Refuser → List Holding → List Framework → List Numbered → List Numbered
    → List Framework
refuses_each by hs fs seen [] = fs
refuses_each by hs fs seen (id ∷ ids) =
    refuses_each by hs (if is_among seen id then fs else refuses_id by hs fs id) (seen ++ id ∷ [])
    ids
