use Rattle.std.proofs.Common.{◌∙◌, Some, IsTrue, inl, inr, ap, ap₂, subst, sym}
use Rattle.sqlite.specs.Held.{state}
use Rattle.sqlite.specs.State.{HasCleanDisk}
use Rattle.keep_store.specs.SavesKept.{AreSeen, IsHeadSeen, Knows, KnowsHead, kept_in, with_record}
use Rattle.keep_tables.specs.Tables.{IsReady}
use Rattle.keep_store.proofs.KnownLemmas.{if_known_holds, head_put, head_known}
use Rattle.keep_store.proofs.keeper.Keeper.save.Goals as goal

pub invariant_of-self-2 : goal.invariant_of-self-2
invariant_of-self-2 g c =
    let old = state g.S.Store c.self.inside.conn in
    let new = state g.S.Store c.save_record.new.conn in
    let ready = c.replace-is_ready.result in
    let tasks = c.in_ok-tasks.tasks in
    let d = c.parts-parts.result.now in
    let was = λ (is : IsTrue ready) (clean : HasCleanDisk new). c.self.invariant.2 (sym c.replace-is_ready.ensures.value ∙ is) (c.in_ok-tasks.ensures.clean clean) in
    let knows = λ (clean : HasCleanDisk new). subst (λ seen. Knows seen old.now.trees) (sym c.take-seen.ensures.value) (c.self.invariant.3 (c.in_ok-tasks.ensures.clean clean)).0 in
    let knows_head = λ (clean : HasCleanDisk new). subst (λ head. KnowsHead head old.now.trees) (sym c.take-head.ensures.value) (c.self.invariant.3 (c.in_ok-tasks.ensures.clean clean)).1 in (
      if_known_holds AreSeen ready (Some tasks) c.if_known.result tt c.if_known.ensures (λ is. c.in_ok-tasks.ensures.tasks),
      if_known_holds IsHeadSeen ready c.head_seen.result c.if_known-2.result tt c.if_known-2.ensures (λ is. head_put c.head_seen.result d c.head_seen.ensures c.in_ok-tasks.ensures.head),
      λ is clean. (c.in_ok-tasks.ensures.saved (was is clean) clean (knows clean) (knows_head clean)).0,
      λ clean. (
        if_known_holds (λ seen. Knows seen new.now.trees) ready (Some tasks) c.if_known.result tt c.if_known.ensures (λ is. c.in_ok-tasks.ensures.knows (was is clean) clean (knows clean)),
        if_known_holds (λ head. KnowsHead head new.now.trees) ready c.head_seen.result c.if_known-2.result tt c.if_known-2.ensures (λ is. head_known c.head_seen.result d new.now.trees c.head_seen.ensures (c.in_ok-tasks.ensures.headed (was is clean) clean (knows_head clean))),
      ),
    )

pub returns-clause-saved : goal.returns-clause-saved
returns-clause-saved g c = λ ready clean.
    let at = λ (conn : _). state g.S.Store conn in
    let old = at c.self.inside.conn in
    let was = subst (λ conn. IsReady (at conn)) (sym c.self.view_is) ready in
    let known = c.self.invariant.3 (c.in_ok-tasks.ensures.clean clean) in
    let knows = subst (λ seen. Knows seen old.now.trees) (sym c.take-seen.ensures.value) known.0 in
    let knows_head = subst (λ head. KnowsHead head old.now.trees) (sym c.take-head.ensures.value) known.1 in
    let saved = c.in_ok-tasks.ensures.saved was clean knows knows_head in
    (saved.0, saved.1 ∙ ap₂ with_record c.parts-parts.ensures.parts (ap (λ conn. kept_in (at conn).now.trees) c.self.view_is))

pub returns-clause-stop : goal.returns-clause-stop
returns-clause-stop g c = λ ready clean db may.
    let at = λ (conn : _). state g.S.Store conn in
    let old = at c.self.inside.conn in
    let was = subst (λ conn. IsReady (at conn)) (sym c.self.view_is) ready in
    let known : HasCleanDisk old → Knows c.take-seen.result old.now.trees × KnowsHead c.take-head.result old.now.trees = λ clean. (
      subst (λ seen. Knows seen old.now.trees) (sym c.take-seen.ensures.value) (c.self.invariant.3 clean).0,
      subst (λ head. KnowsHead head old.now.trees) (sym c.take-head.ensures.value) (c.self.invariant.3 clean).1,
    ) in
    let had = ap (λ conn. kept_in (at conn).now.trees) c.self.view_is in
    elim (c.in_ok-tasks.ensures.stop was known clean db may) [
      | inl kept ↦ inl (kept ∙ had)
      | inr changed ↦ inr (changed ∙ ap₂ with_record c.parts-parts.ensures.parts had)
    ]
