use Rattle.std.proofs.Common.{◌≡◌, ◌∙◌, true, subst, sym}
use Rattle.sqlite.specs.Held.{state}
use Rattle.sqlite.specs.State.{HasCleanDisk}
use Rattle.sqlite.proofs.StateLemmas.{survives_weaker}
use Rattle.keep_tables.specs.Tables.{AddsFirst, AddsTables, AddsTotals, first_schema, second_schema, keeper_schema, no_schema}
use Rattle.keep_store.specs.SavesKept.{Kept}
use Rattle.keep_store.specs.Kept.{Keeps}
use Rattle.keep_store.proofs.AddLemmas.{completes, first_keeps, made_keeps, new_keeps, outside_then, second_keeps, stop_keeps, then, then_keeps, unknown_parts}
use Rattle.keep_store.proofs.adding.add_tables.Goals as goal

pub returns-clause-made : goal.returns-clause-made
returns-clause-made g c = λ clean.
    let s0 = state g.S.Store c.args.conn.now in
    let s1 = state g.S.Store c.add_first.new.conn in
    let s2 = state g.S.Store c.add_tasks.new.conn in
    let s3 = state g.S.Store c.add_totals.new.conn in
    let clean2 = c.add_totals.ensures.clean clean in
    let clean1 = c.in_ok-add_tasks.ensures.clean clean2 in
    then c.add_totals.result (completes s0 s1 s2 s3 (c.in_ok-add_first.ensures.made clean1) (c.in_ok-add_tasks.ensures.made clean2)) (c.add_totals.ensures.made clean)

pub returns-clause-outside : goal.returns-clause-outside
returns-clause-outside g c = λ clean mode.
    let s0 = state g.S.Store c.args.conn.now in
    let s1 = state g.S.Store c.add_first.new.conn in
    let s2 = state g.S.Store c.add_tasks.new.conn in
    let s3 = state g.S.Store c.add_totals.new.conn in
    let clean2 = c.add_totals.ensures.clean clean in
    let clean1 = c.in_ok-add_tasks.ensures.clean clean2 in
    let mode1 = outside_then no_schema first_schema AddsFirst s0 s1 (c.in_ok-add_first.ensures.made clean1) mode in
    let mode2 = outside_then first_schema second_schema AddsTables s1 s2 (c.in_ok-add_tasks.ensures.made clean2) mode1 in
    then c.add_totals.result (λ made. outside_then second_schema keeper_schema AddsTotals s2 s3 made mode2) (c.add_totals.ensures.made clean)

pub returns-clause-unknown : goal.returns-clause-unknown
returns-clause-unknown g c = λ unknown.
    let at = λ (conn : _). (state g.S.Store conn).now.schema in
    let parts = unknown_parts (at c.args.conn.now) unknown in
    let same1 = (c.in_ok-add_first.ensures.other parts.0).1 in
    let same2 = (c.in_ok-add_tasks.ensures.other (λ is. parts.1 (subst (λ conn. at conn ≡ first_schema) same1 is))).1 ∙ same1 in
    let last = c.add_totals.ensures.other (λ is. parts.2 (subst (λ conn. at conn ≡ second_schema) same2 is)) in
    (last.0, last.1 ∙ same2)

pub returns-clause-inside : goal.returns-clause-inside
returns-clause-inside g c = λ mode.
    let at = λ (conn : _). (state g.S.Store conn).in_transaction in
    let same1 = (c.in_ok-add_first.ensures.inside mode).1 in
    let same2 = (c.in_ok-add_tasks.ensures.inside (subst (λ conn. at conn ≡ true) (sym same1) mode)).1 ∙ same1 in
    let last = c.add_totals.ensures.inside (subst (λ conn. at conn ≡ true) (sym same2) mode) in
    (last.0, last.1 ∙ same2)

pub returns-clause-stop : goal.returns-clause-stop
returns-clause-stop g c =
    let s0 = state g.S.Store c.args.conn.now in
    let s1 = state g.S.Store c.add_first.new.conn in
    let s2 = state g.S.Store c.add_tasks.new.conn in
    let s3 = state g.S.Store c.add_totals.new.conn in
    let one = survives_weaker s0 s1 _ _ (λ _ db left. stop_keeps no_schema first_schema AddsFirst new_keeps s0.now db left) c.in_ok-add_first.ensures.stop in
    let on1 : HasCleanDisk s1 → (kept : Kept) → Keeps s0.now.schema s0.now.trees kept → Keeps s1.now.schema s1.now.trees kept = λ clean kept has. made_keeps no_schema first_schema AddsFirst new_keeps s0 s1 kept (c.in_ok-add_first.ensures.made clean) has in
    let two = then_keeps s0 s1 s2 _ on1 (λ db left. stop_keeps first_schema second_schema AddsTables first_keeps s1.now db left) one c.in_ok-add_tasks.ensures.stop in
    let on2 : HasCleanDisk s2 → (kept : Kept) → Keeps s0.now.schema s0.now.trees kept → Keeps s2.now.schema s2.now.trees kept = λ clean kept has. made_keeps first_schema second_schema AddsTables first_keeps s1 s2 kept (c.in_ok-add_tasks.ensures.made clean) (on1 (c.in_ok-add_tasks.ensures.clean clean) kept has) in
    then_keeps s0 s2 s3 _ on2 (λ db left. stop_keeps second_schema keeper_schema AddsTotals second_keeps s2.now db left) two c.add_totals.ensures.stop

pub returns-in_err-add_first-clause-stop : goal.returns-in_err-add_first-clause-stop
returns-in_err-add_first-clause-stop g c =
    let s0 = state g.S.Store c.args.conn.now in
    let s1 = state g.S.Store c.add_first.new.conn in
    survives_weaker s0 s1 _ _ (λ _ db left. stop_keeps no_schema first_schema AddsFirst new_keeps s0.now db left) c.in_err-add_first.ensures.stop

pub returns-in_err-add_tasks-clause-stop : goal.returns-in_err-add_tasks-clause-stop
returns-in_err-add_tasks-clause-stop g c =
    let s0 = state g.S.Store c.args.conn.now in
    let s1 = state g.S.Store c.add_first.new.conn in
    let s2 = state g.S.Store c.add_tasks.new.conn in
    let one = survives_weaker s0 s1 _ _ (λ _ db left. stop_keeps no_schema first_schema AddsFirst new_keeps s0.now db left) c.in_ok-add_first.ensures.stop in
    let on1 : HasCleanDisk s1 → (kept : Kept) → Keeps s0.now.schema s0.now.trees kept → Keeps s1.now.schema s1.now.trees kept = λ clean kept has. made_keeps no_schema first_schema AddsFirst new_keeps s0 s1 kept (c.in_ok-add_first.ensures.made clean) has in
    then_keeps s0 s1 s2 _ on1 (λ db left. stop_keeps first_schema second_schema AddsTables first_keeps s1.now db left) one c.in_err-add_tasks.ensures.stop

pub returns-in_err-add_first-clause-unknown : goal.returns-in_err-add_first-clause-unknown
returns-in_err-add_first-clause-unknown g c = λ unknown.
    let parts = unknown_parts (state g.S.Store c.args.conn.now).now.schema unknown in
    absurd (let never = (c.in_err-add_first.ensures.other parts.0).0 in cc)

pub returns-in_err-add_first-clause-inside : goal.returns-in_err-add_first-clause-inside
returns-in_err-add_first-clause-inside g c = λ mode. absurd (let never = (c.in_err-add_first.ensures.inside mode).0 in cc)

pub returns-in_err-add_tasks-clause-unknown : goal.returns-in_err-add_tasks-clause-unknown
returns-in_err-add_tasks-clause-unknown g c = λ unknown.
    let at = λ (conn : _). (state g.S.Store conn).now.schema in
    let parts = unknown_parts (at c.args.conn.now) unknown in
    let same1 = (c.in_ok-add_first.ensures.other parts.0).1 in
    absurd (let never = (c.in_err-add_tasks.ensures.other (λ is. parts.1 (subst (λ conn. at conn ≡ first_schema) same1 is))).0 in cc)

pub returns-in_err-add_tasks-clause-inside : goal.returns-in_err-add_tasks-clause-inside
returns-in_err-add_tasks-clause-inside g c = λ mode.
    let at = λ (conn : _). (state g.S.Store conn).in_transaction in
    let same1 = (c.in_ok-add_first.ensures.inside mode).1 in
    absurd (let never = (c.in_err-add_tasks.ensures.inside (subst (λ conn. at conn ≡ true) (sym same1) mode)).0 in cc)
