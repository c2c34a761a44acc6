use Rattle.std.proofs.Common.{◌≡◌, drop}
use Rattle.offer_book.specs.Lists.{at_place}
use Rattle.offer_tables.specs.Accounts.{after_commands}
use Rattle.offer_tables.proofs.book.OfferBook.forget_by_at.Given as goal

abbrev pub invariant-loop-command : goal.invariant-loop-command
invariant-loop-command l = at_place l.place (after_commands (drop l.command-index l.commands)) l.self ≡ at_place l.place (after_commands l.commands) l.fn.self
