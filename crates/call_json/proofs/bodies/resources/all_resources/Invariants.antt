use Rattle.std.proofs.Common.{◌≡◌, [], map, drop}
use Rattle.serde_json.specs.View.{view}
use Rattle.call_json.specs.Lists.{each_in}
use Rattle.call_json.specs.Resources.{add_resource}
use Rattle.call_json.proofs.bodies.resources.all_resources.Given as goal

abbrev pub invariant-loop-value : goal.invariant-loop-value
invariant-loop-value l = each_in add_resource l.resources (map view (drop l.value-index l.values)) ≡ each_in add_resource [] (map view l.values)
