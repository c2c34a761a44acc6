use Rattle.std.proofs.Common.{◌≡◌, IfOk, ap, subst, ◌∙◌}
use Rattle.names_core.specs.Ids.{Numbered}
use Rattle.offer_book.specs.Names.{is_among}
use Rattle.offer_tables.specs.Held.{AreKeyed, is_framework_of, placed_of}
use Rattle.master_agents.specs.Looks.{all_placed}
use Rattle.master_agents.proofs.Looking.{placed_joined}
use Rattle.master_agents.proofs.sides.Sides.keys_of.Goals as goal

pub returns-clause-keys : goal.returns-clause-keys
returns-clause-keys c =
    subst (λ ps. IfOk c.keys_of.result (λ ks. (key : Numbered) → is_among key ks.items ≡ is_framework_of c.args.framework (placed_of key ps)))
    (placed_joined c.self.inside.roster c.self.inside.book c.self.invariant.one ∙ ap all_placed c.self.view_is) c.keys_of.ensures.keys

pub returns-clause-apart : goal.returns-clause-apart
returns-clause-apart c =
    subst AreKeyed (placed_joined c.self.inside.roster c.self.inside.book c.self.invariant.one ∙ ap all_placed c.self.view_is) c.keys_of.ensures.apart
