use Rattle.std.proofs.Common.{◌≡◌, cond, None, take}
use Rattle.std.specs.List.{list_any}
use Rattle.std.specs.Map.{lookup}
use Rattle.names_core.specs.Ids.{Numbered}
use Rattle.offer_book.specs.Lists.{same_id}
use Rattle.offer_book.proofs.tasks.remove_each.Given as goal

abbrev pub invariant-loop-key : goal.invariant-loop-key
invariant-loop-key l =
    (q : Numbered) → lookup (same_id q) l.by_key.entries ≡ cond (list_any (same_id q) (take l.key-index l.keys)) None (lookup (same_id q) l.fn.by_key.entries)
