use Rattle.std.proofs.Common.{◌++◌, flat_map, sym, ap, ◌∙◌}
use Rattle.std.proofs.lemmas.List.{append-nil}
use Rattle.offer_book.proofs.Gathering.{all_under}
use Rattle.offer_book.proofs.names.Texts.all_keys.Goals as goal

pub returns : goal.returns
returns c =
    all_under c.args.self.now c.loop-keys.all.items c.values-keys-items.ensures.ordered
    (sym (append-nil c.loop-keys.all.items) ∙ ap (λ vs. c.loop-keys.all.items ++ flat_map (λ v. v.items) vs) (sym c.in-None.ensures.steps.0) ∙ c.loop-keys.invariant)
