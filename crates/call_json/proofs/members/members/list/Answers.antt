use Rattle.std.proofs.Common.{◌≡◌, Option, Some, List, map, ap, sym, ◌∙◌}
use Rattle.std.specs.Borrow.{Bor}
use Rattle.std.specs.Option.{option_map}
use Rattle.serde_json.specs.Data.{Data, Items}
use Rattle.serde_json.specs.View.{view, items_view}
use Rattle.serde_json.specs.declared.value.Value.{Value}
use Rattle.call_json.specs.MemberLookups.{seen}
use Rattle.call_json.specs.Lists.{list_of, values_of}
use Rattle.call_json.proofs.Each.{values_of_items}
use Rattle.call_json.proofs.members.members.list.Goals as goal

pub returns : goal.returns
returns c =
    let items = c.in_ok-list.list.now.items in
    let found : list_of (seen c.args.value) ≡ option_map values_of (Some (items_view items)) =
    ap (λ (o : Option (Bor Value)). list_of (seen o)) c.in_ok-value.was ∙ ap (λ (o : Option Items). option_map values_of o) (sym c.in_ok-list.ensures) in
    rw c.as_slice.ensures.value (sym (found ∙ ap (λ (ds : List Data). Some ds) (values_of_items (map view items))))
