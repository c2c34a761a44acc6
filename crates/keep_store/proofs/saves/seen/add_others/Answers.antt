use Rattle.std.proofs.Common.{arith, refl, ◌≡◌, ◌+◌, ◌++◌, ◌∷◌, [], List, Some, sym, ap, ◌∙◌, take}
use Rattle.std.proofs.lemmas.List.{take_more}
use Rattle.sqlite.specs.Held.{state}
use Rattle.sqlite_rules.specs.Lists.{Has}
use Rattle.sqlite_rules.proofs.ListLemmas.{has_at}
use Rattle.messages.specs.declared.record.RecordedTask.{RecordedTask}
use Rattle.keep_store.specs.SavesKept.{HasTasks}
use Rattle.keep_store.proofs.StepLemmas.{failed_then, quiet_itself, quiet_then, went_both}
use Rattle.keep_store.proofs.SeenLemmas.{among_keyed, known_among, tasks_stand, then_tasks}
use Rattle.keep_store.proofs.saves.seen.add_others.Goals as goal

pub returns-in_err-add_other-clause-quiet : goal.returns-in_err-add_other-clause-quiet
returns-in_err-add_other-clause-quiet g c = quiet_then _ _ _ c.loop-at.invariant.quiet c.add_other.ensures.quiet

pub returns-in_err-add_other-clause-went : goal.returns-in_err-add_other-clause-went
returns-in_err-add_other-clause-went g c =
    let first = state g.S.Store c.args.tx.now.conn.now in
    let old = state g.S.Store c.loop-at.tx.conn.now in
    let new = state g.S.Store c.add_other.new.tx.conn.now in
    let begun = c.args.tasks.now.items in
    failed_then (HasTasks (Some begun) c.loop-at.tasks.items) first old new c.loop-at.invariant.went c.add_other.ensures.quiet (HasTasks (Some begun) c.add_other.new.tasks.items) c.from_residual.result c.from_residual.ensures.0 c.in_err-add_other.ensures.went

pub loop-at-init : goal.loop-at-init
loop-at-init g c = record {
  within = omega arith;
  front = refl;
  are_put = c.requires.are_put;
  among = c.requires.among;
  same_reference = refl;
  quiet = quiet_itself _;
  went = λ writing clean. tasks_stand c.args.tasks.now.items _ writing;
}

pub loop-at-preserved : goal.loop-at-preserved
loop-at-preserved g c =
    let first = state g.S.Store c.args.tx.now.conn.now in
    let old = state g.S.Store c.loop-at.tx.conn.now in
    let new = state g.S.Store c.add_other.new.tx.conn.now in
    let wanted = c.args.wanted.now in
    let i = c.loop-at.at in
    let task = c.index-wanted-at.result in
    let begun = c.args.tasks.now.items in
    let split : take (i + 1) wanted ≡ take i wanted ++ task ∷ [] = take_more wanted i task c.loop-at-test.true ∙ ap (λ (t : RecordedTask). take i wanted ++ t ∷ []) (sym c.index-wanted-at.is) in
    record {
      within = omega (arith, c.in_ok-add_other.ensures.reached);
      front = c.in_ok-add_other.ensures.front ∙ ap (λ (ts : List RecordedTask). ts ++ task ∷ []) c.loop-at.invariant.front ∙ sym split;
      are_put = c.in_ok-add_other.ensures.still_put;
      among = known_among (Has wanted) c.loop-at.tasks.items c.add_other.new.tasks.items task c.loop-at.invariant.among (has_at wanted i task c.loop-at-test.true c.index-wanted-at.is) c.in_ok-add_other.ensures.known;
      same_reference = c.in_ok-add_other.ensures.same_reference ∙ c.loop-at.invariant.same_reference;
      quiet = quiet_then first old new c.loop-at.invariant.quiet c.in_ok-add_other.ensures.quiet;
      went = went_both (HasTasks (Some begun) c.loop-at.tasks.items) first old new c.loop-at.invariant.went c.add_other.ensures.quiet (HasTasks (Some c.loop-at.tasks.items) c.add_other.new.tasks.items) (HasTasks (Some begun) c.add_other.new.tasks.items) c.in_ok-add_other.ensures.went (then_tasks (Some begun) c.loop-at.tasks.items c.add_other.new.tasks.items);
    }

pub add_other-requires-clause-keyed : goal.add_other-requires-clause-keyed
add_other-requires-clause-keyed g c =
    let wanted = c.args.wanted.now in
    let task = c.index-wanted-at.result in
    among_keyed wanted c.loop-at.tasks.items task c.requires.rise (has_at wanted c.loop-at.at task c.loop-at-test.true c.index-wanted-at.is) c.loop-at.invariant.among
