use Rattle.std.proofs.Common.{◌≡◌, [], map, drop}
use Rattle.serde_json.specs.View.{view}
use Rattle.call_json.specs.Lists.{each_in}
use Rattle.call_json.specs.Tasks.{add_query}
use Rattle.call_json.proofs.bodies.reconcile_call.all_queries.Given as goal

abbrev pub invariant-loop-value : goal.invariant-loop-value
invariant-loop-value l = each_in add_query l.queries.items (map view (drop l.value-index l.values)) ≡ each_in add_query [] (map view l.values)
