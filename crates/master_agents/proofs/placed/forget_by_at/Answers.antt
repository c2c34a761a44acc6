use Rattle.std.proofs.Common.{ap, ◌∙◌, arith}
use Rattle.offer_tables.specs.Accounts.{after_commands}
use Rattle.offer_tables.specs.Books.{changed, applied_on}
use Rattle.master_agents.specs.Joined.{at_place}
use Rattle.master_agents.proofs.Placing.{done, past, placed}
use Rattle.master_agents.proofs.placed.forget_by_at.Goals as goal

pub returns-then-place-entries : goal.returns-then-place-entries
returns-then-place-entries c =
    done c.forget_by-forgotten.result (applied_on c.name.result.now c.args.commands.now c.args.book.now) c.forget_by-forgotten.new.self (at_place c.args.place (after_commands c.args.commands.now) c.args.book.now)
    (ap (λ n. changed n (after_commands c.args.commands.now) c.args.book.now) c.name.ensures
    ∙ placed (after_commands c.args.commands.now) c.args.entries.now c.args.book.now c.requires c.args.place c.index-entries-place.result (omega arith) c.index-entries-place.is)
    c.forget_by-forgotten.ensures.ok c.forget_by-forgotten.ensures.refused

pub returns-else-place-entries : goal.returns-else-place-entries
returns-else-place-entries c = past (after_commands c.args.commands.now) c.args.entries.now c.args.book.now c.requires.one c.args.place (omega arith)
