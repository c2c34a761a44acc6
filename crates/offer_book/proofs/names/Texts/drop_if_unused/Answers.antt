use Rattle.std.proofs.Common.{None, sym, ◌∙◌}
use Rattle.std.proofs.lemmas.Map.Text.{btree_map_updates_text}
use Rattle.offer_book.proofs.Naming.{text_same, nil_is}
use Rattle.offer_book.proofs.names.Texts.drop_if_unused.Goals as goal

pub returns-then-is_empty : goal.returns-then-is_empty
returns-then-is_empty c =
    text_same c.args.text.now c.args.self.now (record { by_text = c.remove.new.self }) None
    (btree_map_updates_text c.args.text.now c.args.self.now.by_text c.remove.new.self None c.remove.ensures.updates) (nil_is _ (sym c.is_empty.ensures ∙ c.if-is_empty.true) ∙ c.keys_of.ensures)
