use Rattle.std.proofs.Common.{◌≡◌, cond, None, take}
use Rattle.std.specs.List.{list_any}
use Rattle.std.specs.Map.{lookup}
use Rattle.names_core.specs.Ids.{Numbered}
use Rattle.offer_book.specs.Lists.{same_id}
use Rattle.offer_book.proofs.offers.remove_each.Given as goal

abbrev pub invariant-loop-id : goal.invariant-loop-id
invariant-loop-id l =
    (q : Numbered) → lookup (same_id q) l.by_id.entries ≡ cond (list_any (same_id q) (take l.id-index l.ids)) None (lookup (same_id q) l.fn.by_id.entries)
