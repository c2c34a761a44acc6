-- The compact text of plain data is read as that data.
use Rattle.std.proofs.Common.{◌≡◌, suc, ◌^◌, ◌<◌, ◌≤◌, max, List, [], Option, Some, refl, sym, ap, ap₂, ◌∙◌, arith, append-nil}
use Rattle.std.specs.Prelude.{⊤, option_map, option_and_then}
use Rattle.json.specs.Token.{Token}
use Rattle.json.specs.Lex.{tokens}
use Rattle.json.specs.Json as json
use Rattle.json.specs.Tree as tree
use Rattle.json.proofs.Printed.Decimals.{IsNumber-decimal}
use Rattle.json.proofs.Printed.Tokens.{tokens-print}
use Rattle.json.proofs.Printed.Trees.{ArePrintable-json_tokens, value-json_tokens}
use Rattle.serde_json.specs.Data.{unsigned, negative, float, Data, null, boolean, number, string, array, object, Items, no_items, item, Members, no_members, member, put, depth, items_depth, members_depth}
use Rattle.serde_json.specs.Read.{read, max_depth, of_json, of_items, of_members}
use Rattle.serde_json.specs.Written.{outline, items_outline, members_outline, compact_text}
use Rattle.serde_json.proofs.Numbers.{number_of-decimal}
use Rattle.serde_json.proofs.Texts.{print-outline}

-- members put in one after another
abbrev pub puts : Members → Members → Members
puts found no_members = found
puts found (member k d ms) = puts (put k d found) ms

-- whole numbers of 64 bits, texts, lists, and objects whose members stand in order
abbrev mutual
  pub IsPlain : Data → Type 0
  IsPlain null = ⊤
  IsPlain (boolean b) = ⊤
  IsPlain (number (unsigned n)) = n < 2 ^ 64
  IsPlain (number (negative z)) = ⊥
  IsPlain (number (float x)) = ⊥
  IsPlain (string s) = ⊤
  IsPlain (array ds) = ArePlain ds
  IsPlain (object ms) = HasPlain ms × (puts no_members ms ≡ ms)

  pub ArePlain : Items → Type 0
  ArePlain no_items = ⊤
  ArePlain (item d ds) = IsPlain d × ArePlain ds

  pub HasPlain : Members → Type 0
  HasPlain no_members = ⊤
  HasPlain (member k d ms) = IsPlain d × HasPlain ms

mutual
  numbers : (d : Data) → IsPlain d → tree.HasNumbers (outline d)
  numbers null h = tt
  numbers (boolean b) h = tt
  numbers (number (unsigned n)) h = IsNumber-decimal n h
  numbers (number (negative z)) h = absurd h
  numbers (number (float x)) h = absurd h
  numbers (string s) h = tt
  numbers (array ds) h = item_numbers ds h
  numbers (object ms) h = member_numbers ms h.0

  item_numbers : (ds : Items) → ArePlain ds → tree.ItemsHaveNumbers (items_outline ds)
  item_numbers no_items h = tt
  item_numbers (item d ds) h = (numbers d h.0, item_numbers ds h.1)

  member_numbers : (ms : Members) → HasPlain ms → tree.MembersHaveNumbers (members_outline ms)
  member_numbers no_members h = tt
  member_numbers (member k d ms) h = (numbers d h.0, member_numbers ms h.1)

mutual
  same_depth : (d : Data) → tree.depth (outline d) ≡ depth d
  same_depth null = refl
  same_depth (boolean b) = refl
  same_depth (number n) = refl
  same_depth (string s) = refl
  same_depth (array ds) = ap suc (same_items_depth ds)
  same_depth (object ms) = ap suc (same_members_depth ms)

  same_items_depth : (ds : Items) → tree.items_depth (items_outline ds) ≡ items_depth ds
  same_items_depth no_items = refl
  same_items_depth (item d ds) = ap₂ max (same_depth d) (same_items_depth ds)

  same_members_depth : (ms : Members) → tree.members_depth (members_outline ms) ≡ members_depth ms
  same_members_depth no_members = refl
  same_members_depth (member k d ms) = ap₂ max (same_depth d) (same_members_depth ms)

mutual
  meaning : (d : Data) → IsPlain d → of_json (outline d) ≡ Some d
  meaning null h = refl
  meaning (boolean b) h = refl
  meaning (number (unsigned n)) h = ap (option_map number) (number_of-decimal n h)
  meaning (number (negative z)) h = absurd h
  meaning (number (float x)) h = absurd h
  meaning (string s) h = refl
  meaning (array ds) h = ap (option_map array) (items_meaning ds h)
  meaning (object ms) h = ap (option_map object) (members_meaning ms no_members h.0 ∙ ap (λ (o : Members). Some o) h.1)

  items_meaning : (ds : Items) → ArePlain ds → of_items (items_outline ds) ≡ Some ds
  items_meaning no_items h = refl
  items_meaning (item d ds) h = rw (meaning d h.0, items_meaning ds h.1) refl

  members_meaning : (ms found : Members) → HasPlain ms → of_members (members_outline ms) found ≡ Some (puts found ms)
  members_meaning no_members found h = refl
  members_meaning (member k d ms) found h = rw (meaning d h.0) (members_meaning ms (put k d found) h.1)

pub read_compact : (d : Data) → IsPlain d → depth d ≤ max_depth → read (compact_text d) ≡ Some d
read_compact d plain shallow =
    let ts = tree.json_tokens (outline d) in
    let shown : tokens (compact_text d) ≡ ts = ap tokens (sym (print-outline d)) ∙ tokens-print ts (ArePrintable-json_tokens (outline d) (numbers d plain)) in
    let deep : tree.depth (outline d) ≤ max_depth = omega (arith, same_depth d) in
    ap (λ (o : Option (json.Json × List Token)). option_and_then of_json (option_and_then (λ p. json.if_last p.0 p.1) o)) (ap (json.value max_depth) (shown ∙ sym (append-nil ts)) ∙ value-json_tokens (outline d) max_depth [] deep)
    ∙ meaning d plain
