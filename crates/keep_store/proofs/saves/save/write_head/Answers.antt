use Rattle.std.proofs.Common.{rules, ◌≡◌, [], true, Some, refl, subst}
use Rattle.std.specs.Str.{IsUtf8}
use Rattle.names_core.specs.Names.{is_name}
use Rattle.sqlite.specs.Held.{state}
use Rattle.keep_tables.specs.Tables.{head_row}
use Rattle.messages.specs.declared.record.RecordParts.{RecordParts}
use Rattle.keep_store.specs.SavesKept.{HasHead, HasTotal, ReplacesHead, with_tasks}
use Rattle.keep_store.proofs.SaveLemmas.{has_head, head_written, left_head}
use Rattle.keep_store.proofs.StepLemmas.{quiet_itself, quiet_then, went_then}
use Rattle.keep_store.proofs.saves.save.write_head.Goals as goal

pub returns-then-is_head_of-clause-went : goal.returns-then-is_head_of-clause-went
returns-then-is_head_of-clause-went g c = λ writing clean.
    let s = state g.S.Store c.args.tx.now.conn.now in
    let d = c.args.durable.now in
    let it : (seen : RecordParts) × (c.args.head.now ≡ Some seen) × (with_tasks [] seen ≡ with_tasks [] d) = search rules in
    record { writing = writing; committed = refl; changes = left_head c.args.head.now it.0 d s.now.trees it.1 it.2 }

pub returns-in-Ok-clause-quiet : goal.returns-in-Ok-clause-quiet
returns-in-Ok-clause-quiet g c = quiet_then _ _ _ c.replace_head.ensures.quiet c.write_amounts.ensures.quiet

pub returns-in-Ok-clause-went : goal.returns-in-Ok-clause-went
returns-in-Ok-clause-went g c =
    let s0 = state g.S.Store c.args.tx.now.conn.now in
    let s1 = state g.S.Store c.replace_head.new.tx.conn.now in
    let s2 = state g.S.Store c.write_amounts.new.tx.conn.now in
    let head = c.args.head.now in
    let d = c.args.durable.now in
    let row = head_row d.name d.run d.session in
    let replaced = rw c.as_text-name.ensures.text at c.in-Ok.ensures.went in
    went_then (ReplacesHead row) s0 s1 s2 replaced c.write_amounts.ensures.quiet (HasTotal head d.total) (HasHead head d) c.write_amounts.result c.write_amounts.ensures.went (has_head head d)

pub returns-in-Ok-clause-head : goal.returns-in-Ok-clause-head
returns-in-Ok-clause-head g c =
    let d = c.args.durable.now in
    let named : is_name d.name ≡ true = search rules in
    head_written d c.write_amounts.result named (subst IsUtf8 c.as_text-name.ensures.text c.as_text-name.utf8) (search rules) (search rules) c.write_amounts.ensures.rows c.write_amounts.ensures.named

pub returns-then-is_head_of-clause-quiet : goal.returns-then-is_head_of-clause-quiet
returns-then-is_head_of-clause-quiet g c = quiet_itself _
