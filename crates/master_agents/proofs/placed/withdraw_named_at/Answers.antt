use Rattle.std.proofs.Common.{ap, ◌∙◌, arith}
use Rattle.offer_tables.specs.Accounts.{without_named}
use Rattle.offer_tables.specs.Books.{changed, withdrawn_on}
use Rattle.master_agents.specs.Joined.{at_place}
use Rattle.master_agents.proofs.Placing.{done, past, placed}
use Rattle.master_agents.proofs.placed.withdraw_named_at.Goals as goal

pub returns-then-place-entries : goal.returns-then-place-entries
returns-then-place-entries c =
    done c.withdraw_used-withdrawn.result (withdrawn_on c.name.result.now c.args.framework c.args.ids.now c.args.book.now) c.withdraw_used-withdrawn.new.self (at_place c.args.place (without_named c.args.framework c.args.ids.now) c.args.book.now)
    (ap (λ n. changed n (without_named c.args.framework c.args.ids.now) c.args.book.now) c.name.ensures
    ∙ placed (without_named c.args.framework c.args.ids.now) c.args.entries.now c.args.book.now c.requires c.args.place c.index-entries-place.result (omega arith) c.index-entries-place.is)
    c.withdraw_used-withdrawn.ensures.ok c.withdraw_used-withdrawn.ensures.refused

pub returns-else-place-entries : goal.returns-else-place-entries
returns-else-place-entries c = past (without_named c.args.framework c.args.ids.now) c.args.entries.now c.args.book.now c.requires.one c.args.place (omega arith)
