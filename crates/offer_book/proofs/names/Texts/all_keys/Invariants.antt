use Rattle.std.proofs.Common.{◌≡◌, ◌++◌, flat_map}
use Rattle.std.specs.BTreeMap.{values}
use Rattle.offer_book.proofs.names.Texts.all_keys.Given as goal

abbrev pub invariant-loop-keys : goal.invariant-loop-keys
invariant-loop-keys l = l.all.items ++ flat_map (λ v. v.items) l.keys-iterator ≡ flat_map (λ v. v.items) (values l.self.by_text)
