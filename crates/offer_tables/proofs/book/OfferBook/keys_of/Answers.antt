use Rattle.std.proofs.Common.{◌≡◌, IfOk, subst, ◌∙◌}
use Rattle.names_core.specs.Ids.{Numbered}
use Rattle.offer_book.specs.Names.{is_among}
use Rattle.offer_book.proofs.Gathering.{if_ok_map}
use Rattle.offer_tables.specs.Held.{AreKeyed, all_placed, is_framework_of, placed_of}
use Rattle.offer_tables.proofs.Holding.{framework_so, keyed}
use Rattle.offer_tables.proofs.book.OfferBook.keys_of.Goals as goal

pub returns-clause-keys : goal.returns-clause-keys
returns-clause-keys c =
    subst (λ as_. IfOk c.keys_of.result (λ ks. (key : Numbered) → is_among key ks.items ≡ is_framework_of c.args.framework (placed_of key (all_placed as_)))) c.self.view_is
    (if_ok_map c.keys_of.result c.keys_of.ensures.keys (λ ks all key.
    all key ∙ framework_so c.self.inside.agents.items c.self.inside.offers c.self.inside.tasks c.self.invariant.each c.keys_of.ensures.once c.args.framework key))

pub returns-clause-apart : goal.returns-clause-apart
returns-clause-apart c =
    subst (λ as_. AreKeyed (all_placed as_)) c.self.view_is
    (keyed c.self.inside.agents.items c.self.inside.offers c.self.inside.tasks c.self.invariant.each c.keys_of.ensures.once)
