use Rattle.std.proofs.Common.{ap, ◌∙◌, arith}
use Rattle.offer_tables.specs.Accounts.{receiving}
use Rattle.offer_tables.specs.Books.{changed, received_on}
use Rattle.master_agents.specs.Joined.{at_place}
use Rattle.master_agents.proofs.Placing.{done, past, placed}
use Rattle.master_agents.proofs.placed.receive_at.Goals as goal

pub returns-then-place-entries : goal.returns-then-place-entries
returns-then-place-entries c =
    done c.receive_on-received.result (received_on c.name.result.now c.args.update.now c.args.book.now) c.receive_on-received.new.self (at_place c.args.place (receiving c.args.update.now.key c.args.update.now.k c.args.update.now.state c.args.update.now.ended) c.args.book.now)
    (ap (λ n. changed n (receiving c.args.update.now.key c.args.update.now.k c.args.update.now.state c.args.update.now.ended) c.args.book.now) c.name.ensures
    ∙ placed (receiving c.args.update.now.key c.args.update.now.k c.args.update.now.state c.args.update.now.ended) c.args.entries.now c.args.book.now c.requires.fit c.args.place c.index-entries-place.result (omega arith) c.index-entries-place.is)
    c.receive_on-received.ensures.ok c.receive_on-received.ensures.refused

pub returns-else-place-entries : goal.returns-else-place-entries
returns-else-place-entries c = past (receiving c.args.update.now.key c.args.update.now.k c.args.update.now.state c.args.update.now.ended) c.args.entries.now c.args.book.now c.requires.fit.one c.args.place (omega arith)
