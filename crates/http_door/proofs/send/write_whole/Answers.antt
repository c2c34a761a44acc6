use Rattle.std.proofs.Common.{◌++◌, ◌-◌, ℕ, List, [], take, drop, length, sym, ◌∙◌, subst, arith}
use Rattle.std.proofs.Math.Seq.{take-add}
use Rattle.std.proofs.lemmas.List.{take_rest, take_all, length-take, length-drop, append-nil}
use Rattle.http_door.proofs.send.write_whole.Goals as goal

pub loop-at-preserved : goal.loop-at-preserved
loop-at-preserved g c =
    let text = c.args.text.now in
    let wrote = rw take_rest at c.in-Some.ensures.bytes in (
      subst (λ (t : List ℕ). g.O.Outlet.writes c.args.outlet.now t c.write.new.self) (sym (take-add c.loop-at.at c.in-Some.count text))
          (g.met.O.Outlet.writes_more _ _ _ _ _ c.loop-at.invariant.0 wrote),
      omega (arith, c.in-Some.ensures.within.1, length-take (length text - c.loop-at.at) (drop c.loop-at.at text), length-drop c.loop-at.at text),
      c.in-Some.ensures.sound ∙ c.loop-at.invariant.2,
    )

pub returns-in-None-clause-sent : goal.returns-in-None-clause-sent
returns-in-None-clause-sent g c =
    (take c.loop-at.at c.args.text.now ++ [], g.met.O.Outlet.writes_more _ _ _ _ _ c.loop-at.invariant.0 c.in-None.ensures.failed.0, (c.loop-at.at, append-nil _))

pub returns-clause-sent : goal.returns-clause-sent
returns-clause-sent g c =
    (take c.loop-at.at c.args.text.now, c.loop-at.invariant.0, take_all c.loop-at.at c.args.text.now (omega (arith, c.loop-at-test.false)))
