use Rattle.std.proofs.Common.{rules, arith, refl, length, ◌≡◌, ◌+◌, ◌-◌, ◌∙◌, List, Some, drop, subst, sym}
use Rattle.std.specs.List.{AllByRecursion}
use Rattle.sqlite.specs.Held.{state}
use Rattle.sqlite_rules.specs.Lists.{Has}
use Rattle.messages.specs.declared.record.RecordedTask.{RecordedTask}
use Rattle.keep_store.specs.SavesKept.{HasTasks}
use Rattle.keep_store.proofs.SeenLemmas.{behind_gone, behind_kept, none_behind, tasks_stand, then_tasks}
use Rattle.keep_store.proofs.StepLemmas.{failed_then, quiet_itself, quiet_then, went_both}
use Rattle.keep_store.proofs.saves.seen.cut_others.Goals as goal

pub loop-at-init : goal.loop-at-init
loop-at-init g c =
    let tasks = c.args.tasks.now.items in
    let len : c.len-at.result ≡ length tasks = search rules in
    record {
      within = omega arith;
      are_put = c.requires.are_put;
      among = subst (λ n. AllByRecursion (Has c.args.wanted.now) (drop n tasks)) (sym len) (none_behind (Has c.args.wanted.now) tasks);
      same_reference = refl;
      quiet = quiet_itself _;
      went = λ writing clean. tasks_stand tasks _ writing;
    }

pub loop-at-preserved : goal.loop-at-preserved
loop-at-preserved g c =
    let wanted = c.args.wanted.now in
    let tasks = c.loop-at.tasks.items in
    let at = c.loop-at.at - 1 in
    let front : c.loop-at.at ≡ at + 1 = omega (arith, c.loop-at-test.true) in
    let behind : AllByRecursion (Has wanted) (drop (at + 1) tasks) = subst (λ n. AllByRecursion (Has wanted) (drop n tasks)) front c.loop-at.invariant.among in
    record {
      within = omega arith;
      are_put = c.loop-at.invariant.are_put;
      among = behind_kept (Has wanted) tasks at c.index.result.now (omega (arith, front, c.loop-at.invariant.within)) c.index.ensures (c.is_among.ensures c.if-not-is_among.false) behind;
      same_reference = c.loop-at.invariant.same_reference;
      quiet = c.loop-at.invariant.quiet;
      went = c.loop-at.invariant.went;
    }

pub loop-at-preserved-in-Continue-1 : goal.loop-at-preserved-in-Continue-1
loop-at-preserved-in-Continue-1 g c =
    let first = state g.S.Store c.args.tx.now.conn.now in
    let old = state g.S.Store c.loop-at.tx.conn.now in
    let new = state g.S.Store c.cut_at.new.tx.conn.now in
    let wanted = c.args.wanted.now in
    let begun = c.args.tasks.now.items in
    let tasks = c.loop-at.tasks.items in
    let left = c.cut_at.new.tasks.items in
    let at = c.loop-at.at - 1 in
    let front : c.loop-at.at ≡ at + 1 = omega (arith, c.loop-at-test.true) in
    let behind : AllByRecursion (Has wanted) (drop (at + 1) tasks) = subst (λ n. AllByRecursion (Has wanted) (drop n tasks)) front c.loop-at.invariant.among in
    record {
      within = omega (arith, c.cut_at.ensures.shorter);
      are_put = c.in_ok-cut_at.ensures.still_put;
      among = subst (λ (left : List RecordedTask). AllByRecursion (Has wanted) (drop at left)) (sym c.cut_at.ensures.left) (behind_gone (Has wanted) tasks at behind);
      same_reference = c.cut_at.ensures.same_reference ∙ c.loop-at.invariant.same_reference;
      quiet = quiet_then first old new c.loop-at.invariant.quiet c.cut_at.ensures.quiet;
      went = went_both (HasTasks (Some begun) tasks) first old new c.loop-at.invariant.went c.cut_at.ensures.quiet (HasTasks (Some tasks) left) (HasTasks (Some begun) left) c.in_ok-cut_at.ensures.went (then_tasks (Some begun) tasks left);
    }

pub returns-in_err-cut_at-clause-quiet : goal.returns-in_err-cut_at-clause-quiet
returns-in_err-cut_at-clause-quiet g c = quiet_then _ _ _ c.loop-at.invariant.quiet c.cut_at.ensures.quiet

pub returns-in_err-cut_at-clause-went : goal.returns-in_err-cut_at-clause-went
returns-in_err-cut_at-clause-went g c =
    let first = state g.S.Store c.args.tx.now.conn.now in
    let old = state g.S.Store c.loop-at.tx.conn.now in
    let new = state g.S.Store c.cut_at.new.tx.conn.now in
    let begun = c.args.tasks.now.items in
    failed_then (HasTasks (Some begun) c.loop-at.tasks.items) first old new c.loop-at.invariant.went c.cut_at.ensures.quiet (HasTasks (Some begun) c.cut_at.new.tasks.items) c.from_residual.result c.from_residual.ensures.0 c.in_err-cut_at.ensures.went
