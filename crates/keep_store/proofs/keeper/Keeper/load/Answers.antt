use Rattle.std.proofs.Common.{rules, ◌≡◌, ◌∙◌, IsTrue, subst, sym}
use Rattle.sqlite.specs.Effect.{Database}
use Rattle.sqlite.specs.Held.{state}
use Rattle.sqlite.specs.State.{HasCleanDisk, Survives}
use Rattle.keep_store.specs.SavesKept.{AreSeen, Knows}
use Rattle.keep_tables.specs.Tables.{IsReady, Shows, Stays}
use Rattle.keep_store.proofs.KnownLemmas.{if_known_holds}
use Rattle.keep_store.proofs.keeper.Keeper.load.Goals as goal

pub seen_in-requires : goal.seen_in-requires
seen_in-requires g c = record { read_back = rw (c.as_slice-2.ensures.value, c.as_slice-3.ensures.value) at c.in_ok-found.ensures.read_back }

pub invariant_of-self-2 : goal.invariant_of-self-2
invariant_of-self-2 g c =
    let old = state g.S.Store c.self.inside.conn in
    let new = state g.S.Store c.read_rows.new.conn in
    let ready = c.replace-is_ready.result in
    let same : ready ≡ c.self.inside.is_ready = c.replace-is_ready.ensures.value in
    let was = λ (is : IsTrue ready) (clean : HasCleanDisk new). c.self.invariant.2 (sym same ∙ is) (c.in-Ok.ensures.clean clean) in
    let up = λ (is : IsTrue ready) (clean : HasCleanDisk new). c.in-Ok.ensures.up (was is clean) clean in
    let knows = λ (clean : HasCleanDisk new) (is : IsTrue ready). (
    let shows = c.in-Ok.ensures.rows (was is clean) clean in
    let stays : new.now ≡ old.now = (c.in-Ok.ensures.stays (was is clean) clean).same (up is clean).is_open in
    subst (λ (d : Database). Knows c.seen_in.result d.trees) (sym stays) (c.seen_in.ensures.knows old.now.trees shows)) in
    let if_known = c.if_known.ensures in (
      if_known_holds AreSeen ready c.seen_in.result c.if_known.result tt if_known (λ is. c.seen_in.ensures.put),
      tt,
      up,
      λ clean. (if_known_holds (λ seen. Knows seen new.now.trees) ready c.seen_in.result c.if_known.result tt if_known (knows clean), tt),
    )

pub returns-clause-loaded : goal.returns-clause-loaded
returns-clause-loaded g c = λ ready clean.
    let db = (state g.S.Store c.args.self.now).now.trees in
    let shows : Shows db c.as_slice.result.now c.as_slice-2.result.now c.as_slice-3.result.now c.as_slice-4.result.now = search rules in
    c.in_ok-found.ensures.loaded db shows

pub returns-clause-saved : goal.returns-clause-saved
returns-clause-saved g c = λ d ready clean.
    let db = (state g.S.Store c.args.self.now).now.trees in
    let shows : Shows db c.as_slice.result.now c.as_slice-2.result.now c.as_slice-3.result.now c.as_slice-4.result.now = search rules in
    c.in_ok-found.ensures.saved db d shows

pub returns-clause-stays : goal.returns-clause-stays
returns-clause-stays g c = λ ready clean.
    let at = λ (conn : _). state g.S.Store conn in
    let was = subst (λ conn. IsReady (at conn)) (sym c.self.view_is) ready in
    subst (λ conn. Stays (at conn) (at c.read_rows.new.conn)) c.self.view_is (c.in-Ok.ensures.stays was clean)

pub returns-clause-stop : goal.returns-clause-stop
returns-clause-stop g c = λ ready.
    let at = λ (conn : _). state g.S.Store conn in
    let was = subst (λ conn. IsReady (at conn)) (sym c.self.view_is) ready in
    subst (λ conn. Survives (at conn) (at c.read_rows.new.conn) (λ _. ⊥)) c.self.view_is (c.in-Ok.ensures.stop was)

pub returns-in_err-found-clause-stays : goal.returns-in_err-found-clause-stays
returns-in_err-found-clause-stays g c = λ ready clean.
    let at = λ (conn : _). state g.S.Store conn in
    let was = subst (λ conn. IsReady (at conn)) (sym c.self.view_is) ready in
    subst (λ conn. Stays (at conn) (at c.read_rows.new.conn)) c.self.view_is (c.in-Ok.ensures.stays was clean)

pub returns-in_err-found-clause-stop : goal.returns-in_err-found-clause-stop
returns-in_err-found-clause-stop g c = λ ready.
    let at = λ (conn : _). state g.S.Store conn in
    let was = subst (λ conn. IsReady (at conn)) (sym c.self.view_is) ready in
    subst (λ conn. Survives (at conn) (at c.read_rows.new.conn) (λ _. ⊥)) c.self.view_is (c.in-Ok.ensures.stop was)

pub returns-clause-up : goal.returns-clause-up
returns-clause-up g c = λ ready clean.
    let was = subst (λ conn. IsReady (state g.S.Store conn)) (sym c.self.view_is) ready in
    c.in-Ok.ensures.up was clean
