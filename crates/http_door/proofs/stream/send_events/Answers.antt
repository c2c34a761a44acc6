use Rattle.std.proofs.Common.{◌++◌, ◌∷◌, [], ℕ, List, length, sym, ap, ◌∙◌, subst, refl, arith, append-nil}
use Rattle.std.proofs.lemmas.List.{length-append}
use Rattle.http_head.specs.Responses.{last_chunk}
use Rattle.http_door.specs.Deeds.{Deed, Chain, taken}
use Rattle.http_door.specs.Exchange.{chunks, nothing}
use Rattle.http_door.specs.Turns.{Sends}
use Rattle.http_door.proofs.Deeds.{chain_then, taken_then, chunks_then}
use Rattle.http_door.proofs.Sent.{front_of, all_of}
use Rattle.http_door.proofs.Events.{closes, misses}
use Rattle.http_door.proofs.stream.send_events.Goals as goal

pub returns-in-Ok-false-clause-sent : goal.returns-in-Ok-false-clause-sent
returns-in-Ok-false-clause-sent g c =
    let so_far = c.loop-turn.invariant.0 in
    let now = c.in-Ok-false.ensures.sent in
    let closed = rw c.in-Ok-false.field-0-test at now.4 in
    let last = c.send.ensures.sent in
    let sends = subst (λ (t : List ℕ). Sends c.send.result t last.0) c.last_chunk.ensures last.2 in (
      taken c.args.stream so_far.0 ++ now.0,
      chunks so_far.0 ++ (now.1 ++ last.0),
      chain_then g.B.Bench.does _ _ _ _ _ so_far.1 now.2,
      g.met.O.Outlet.writes_more _ _ _ _ _ so_far.2 (g.met.O.Outlet.writes_more _ _ _ _ _ now.3 last.1),
      closes c.send.result c.args.stream so_far.0 now.0 now.1 last.0 closed.0 closed.1 sends,
    )

pub returns-in-Err-clause-sent : goal.returns-in-Err-clause-sent
returns-in-Err-clause-sent g c =
    let so_far = c.loop-turn.invariant.0 in
    let now = c.in-Err.ensures.sent in (
      taken c.args.stream so_far.0 ++ now.0,
      chunks so_far.0 ++ now.1,
      chain_then g.B.Bench.does _ _ _ _ _ so_far.1 now.2,
      g.met.O.Outlet.writes_more _ _ _ _ _ so_far.2 now.3,
      misses c.in-Err.fault c.args.stream so_far.0 now.0 now.1 now.4,
    )

pub loop-turn-preserved : goal.loop-turn-preserved
loop-turn-preserved g c =
    let so_far = c.loop-turn.invariant.0 in
    let now = c.in-Ok-true.ensures.sent in
    let took = rw c.in-Ok-true.field-0-test at now.4 in
    let event = took.0 in (
      (
        so_far.0 ++ event ∷ [],
        subst (λ (d : List Deed). Chain g.B.Bench.does c.args.bench.now d c.send_next.new.bench)
            (ap (λ (d : List Deed). taken c.args.stream so_far.0 ++ d) took.1 ∙ sym (taken_then c.args.stream so_far.0 event))
            (chain_then g.B.Bench.does _ _ _ _ _ so_far.1 now.2),
        subst (λ (t : List ℕ). g.O.Outlet.writes c.args.outlet.now t c.send_next.new.outlet)
            (ap (λ (t : List ℕ). chunks so_far.0 ++ t) took.2 ∙ sym (chunks_then so_far.0 event))
            (g.met.O.Outlet.writes_more _ _ _ _ _ so_far.2 now.3),
        omega (arith, length-append so_far.0 (event ∷ []), so_far.3),
      ),
      c.in-Ok-true.ensures.sound ∙ c.loop-turn.invariant.1,
    )

pub returns-clause-sent : goal.returns-clause-sent
returns-clause-sent g c =
    let so_far = c.loop-turn.invariant.0 in
    let j = front_of (length (chunks so_far.0)) (chunks so_far.0) last_chunk in (
      taken c.args.stream so_far.0,
      chunks so_far.0,
      so_far.1,
      so_far.2,
      (so_far.0, [], j.0, nothing refl, sym (append-nil (taken c.args.stream so_far.0)), all_of (chunks so_far.0) ∙ j.1),
    )
