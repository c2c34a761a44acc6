use Rattle.std.proofs.Common.{◌≡◌, ◌++◌, [], List, length, sym, ap, ◌∙◌, subst, refl, arith, append-nil}
use Rattle.std.proofs.lemmas.List.{length-append}
use Rattle.http_door.specs.Deeds.{Deed}
use Rattle.http_door.specs.Exchange.{Serves, idle}
use Rattle.http_door.proofs.Deeds.{chain_then, link_behind}
use Rattle.http_door.proofs.Responses.{same_error_back}
use Rattle.http_door.proofs.Requests.{serves_more, serves_then}
use Rattle.http_door.proofs.conn.serve_conn.Goals as goal

pub returns-in-Ok-false-clause-exchange : goal.returns-in-Ok-false-clause-exchange
returns-in-Ok-false-clause-exchange g c =
    let so_far = c.loop-turn.invariant.0 in
    let now = c.in-Ok-false.ensures.turned in (
      so_far.0 ++ now.0,
      so_far.1 ++ now.1,
      so_far.2 ++ now.2,
      g.met.I.Inlet.reads_more _ _ _ _ _ so_far.3 now.3,
      chain_then g.B.Bench.does _ _ _ _ _ so_far.4 now.4,
      g.met.O.Outlet.writes_more _ _ _ _ _ so_far.5 now.5,
      record {
        before = so_far.1;
        final = now.1;
        earlier = so_far.2;
        later = now.2;
        rest = c.loop-turn.unread ++ now.0;
        serves = serves_more _ _ _ _ now.0 so_far.6;
        ends = rw c.in-Ok-false.field-0-test at now.6;
        deeds_are = refl;
        sent_is = refl;
      },
    )

pub returns-in-Err-clause-exchange : goal.returns-in-Err-clause-exchange
returns-in-Err-clause-exchange g c =
    let so_far = c.loop-turn.invariant.0 in
    let now = c.in-Err.ensures.turned in (
      so_far.0 ++ now.0,
      so_far.1 ++ now.1,
      so_far.2 ++ now.2,
      g.met.I.Inlet.reads_more _ _ _ _ _ so_far.3 now.3,
      chain_then g.B.Bench.does _ _ _ _ _ so_far.4 now.4,
      g.met.O.Outlet.writes_more _ _ _ _ _ so_far.5 now.5,
      record {
        before = so_far.1;
        final = now.1;
        earlier = so_far.2;
        later = now.2;
        rest = c.loop-turn.unread ++ now.0;
        serves = serves_more _ _ _ _ now.0 so_far.6;
        begun = now.6;
        deeds_are = refl;
        sent_is = refl;
      },
    )

pub loop-turn-preserved : goal.loop-turn-preserved
loop-turn-preserved g c =
    let so_far = c.loop-turn.invariant.0 in
    let now = c.in-Ok-true.ensures.turned in
    let turned = rw c.in-Ok-true.field-0-test at now.6 in
    let serves = serves_then _ _ _ _ turned.0 now.2 _ (serves_more _ _ _ _ now.0 so_far.6) turned.2 in
    let one : length now.1 ≡ 1 = ap length turned.1 in (
      (
        so_far.0 ++ now.0,
        so_far.1 ++ now.1,
        so_far.2 ++ now.2,
        g.met.I.Inlet.reads_more _ _ _ _ _ so_far.3 now.3,
        chain_then g.B.Bench.does _ _ _ _ _ so_far.4 now.4,
        g.met.O.Outlet.writes_more _ _ _ _ _ so_far.5 now.5,
        subst (λ (d : List Deed). Serves (so_far.0 ++ now.0) (so_far.1 ++ d) (so_far.2 ++ now.2) c.turn.new.unread) (sym turned.1) serves,
        omega (arith, length-append so_far.1 now.1, so_far.7, one),
      ),
      c.in-Ok-true.ensures.sound.0 ∙ c.loop-turn.invariant.1,
      c.in-Ok-true.ensures.sound.1 ∙ c.loop-turn.invariant.2,
    )

pub returns-clause-exchange : goal.returns-clause-exchange
returns-clause-exchange g c =
    let so_far = c.loop-turn.invariant.0 in (
      so_far.0,
      so_far.1,
      so_far.2,
      so_far.3,
      so_far.4,
      so_far.5,
      record {
        before = so_far.1;
        final = [];
        earlier = so_far.2;
        later = [];
        rest = c.loop-turn.unread;
        serves = so_far.6;
        begun = idle refl refl;
        deeds_are = sym (append-nil so_far.1);
        sent_is = sym (append-nil so_far.2);
      },
    )

pub returns-in-Err-clause-link : goal.returns-in-Err-clause-link
returns-in-Err-clause-link g c e =
    let so_far = c.loop-turn.invariant.0 in
    link_behind g.B.Bench.does _ _ _ so_far.1 _ _ _ _ _ _ c.loop-turn.invariant.1 c.loop-turn.invariant.2 so_far.4 (c.in-Err.ensures.link (same_error_back _ _ e))
