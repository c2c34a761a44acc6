use Rattle.std.proofs.Common.{◌≡◌, ◌+◌, ◌∷◌, [], drop, refl, sym, ap, ◌∙◌}
use Rattle.std.proofs.lemmas.List.{drop_more, drop_all}
use Rattle.offer_book.specs.Lists.{at_place}
use Rattle.offer_tables.specs.Accounts.{after_commands}
use Rattle.offer_tables.proofs.Only.{at_place-twice}
use Rattle.offer_tables.proofs.Ridding.{at_place-none}
use Rattle.offer_tables.proofs.book.OfferBook.forget_by_at.Goals as goal

pub loop-command-preserved : goal.loop-command-preserved
loop-command-preserved c =
    let cs = c.args.commands.now in
    let i = c.loop-command.command-index in
    let command = c.command-item.result in
    let split : drop i cs ≡ command ∷ drop (i + 1) cs = drop_more cs i command c.loop-command-test.true ∙ ap (λ j. j ∷ drop (i + 1) cs) (sym c.command-item.is) in
    ap (at_place c.args.place (after_commands (drop (i + 1) cs))) c.forget_one_at.ensures
    ∙ at_place-twice c.args.place (after_commands (drop (i + 1) cs)) (after_commands (command ∷ [])) c.loop-command.self
    ∙ ap (λ js. at_place c.args.place (after_commands js) c.loop-command.self) (sym split) ∙ c.loop-command.invariant

pub returns : goal.returns
returns c =
    sym (at_place-none c.args.place (after_commands []) (λ a. refl) c.loop-command.self)
    ∙ ap (λ js. at_place c.args.place (after_commands js) c.loop-command.self) (sym (drop_all c.loop-command.command-index c.args.commands.now c.loop-command-test.false)) ∙ c.loop-command.invariant
