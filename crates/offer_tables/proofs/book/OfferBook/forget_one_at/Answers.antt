use Rattle.std.proofs.Common.{◌∷◌, [], refl, sym, ap, ◌∙◌}
use Rattle.messages.specs.declared.mail.Command.{Command}
use Rattle.messages.specs.declared.mail.Command.TheVariants.{Kill, Launch}
use Rattle.offer_book.specs.Lists.{at_place}
use Rattle.offer_tables.specs.Accounts.{after_commands}
use Rattle.offer_tables.proofs.Ridding.{at_place-none}
use Rattle.offer_tables.proofs.book.OfferBook.forget_one_at.Goals as goal

pub returns-in-Launch : goal.returns-in-Launch
returns-in-Launch c =
    sym (ap (λ (command : Command). at_place c.args.place (after_commands (command ∷ [])) c.args.self.now) c.in-Launch.is
    ∙ at_place-none c.args.place (after_commands (Launch c.in-Launch._job c.in-Launch._offers ∷ [])) (λ a. refl) c.args.self.now)

pub returns-in-Kill : goal.returns-in-Kill
returns-in-Kill c =
    sym (ap (λ (command : Command). at_place c.args.place (after_commands (command ∷ [])) c.args.self.now) c.in-Kill.is
    ∙ at_place-none c.args.place (after_commands (Kill c.in-Kill._key ∷ [])) (λ a. refl) c.args.self.now)
