use Rattle.std.proofs.Common.{[], ap, ◌∙◌, arith}
use Rattle.offer_tables.specs.Accounts.{reopened}
use Rattle.offer_tables.specs.Books.{emptied_on}
use Rattle.master_agents.specs.Joined.{at_place}
use Rattle.master_agents.proofs.Placing.{done, past, placed}
use Rattle.master_agents.proofs.placed.empty_at.Goals as goal

pub returns-then-place-entries : goal.returns-then-place-entries
returns-then-place-entries c =
    done c.empty_agent-emptied.result (emptied_on c.name.result.now c.new-nothing.result c.args.book.now) c.empty_agent-emptied.new.self (at_place c.args.place (reopened [] []) c.args.book.now)
    (ap (λ n. emptied_on n c.new-nothing.result c.args.book.now) c.name.ensures ∙ ap (λ total. emptied_on c.index-entries-place.result.name total c.args.book.now) c.new-nothing.ensures
    ∙ placed (reopened [] []) c.args.entries.now c.args.book.now c.requires c.args.place c.index-entries-place.result (omega arith) c.index-entries-place.is)
    c.empty_agent-emptied.ensures.ok c.empty_agent-emptied.ensures.refused

pub returns-else-place-entries : goal.returns-else-place-entries
returns-else-place-entries c = past (reopened [] []) c.args.entries.now c.args.book.now c.requires.one c.args.place (omega arith)
