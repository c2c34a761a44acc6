use Rattle.std.proofs.Common.{take, get_or, ◌+◌, refl, sym, ap, ◌∙◌, arith}
use Rattle.std.proofs.lemmas.List.{take_all}
use Rattle.http_head.specs.Cuts.{cut_len, place_behind, place_after}
use Rattle.http_head.proofs.Cuts.{seen_cut, after_hit, after_miss, after_end, behind_more}
use Rattle.http_head.proofs.Parts.{cut_is, none_is}
use Rattle.http_head.proofs.cut.Scan.look.Goals as goal

pub loop-i-init : goal.loop-i-init
loop-i-init c = (refl, refl, c.requires.within, seen_cut c.args.self.now c.args.bytes.now c.requires, c.requires.place)

pub returns-then-is_last-clause-part : goal.returns-then-is_last-clause-part
returns-then-is_last-clause-part c =
    let at = c.loop-i.invariant in
    let found = sym (after_hit _ _ c.args.bytes.now c.loop-i.i c.loop-i-test.true (sym c.is_last.ensures ∙ c.if-is_last.true)) ∙ at.3 ∙ ap (λ p. cut_len p c.args.bytes.now) at.0 in
    cut_is c.args.self.now.start c.args.bytes.now (c.loop-i.i + 1) (sym found)

pub loop-i-preserved : goal.loop-i-preserved
loop-i-preserved c =
    let at = c.loop-i.invariant in
    let step = after_miss c.loop-i.i c.loop-i.self.place c.args.bytes.now c.loop-i.i c.loop-i-test.true (sym c.is_last.ensures ∙ c.if-is_last.false) in
    let behind = ap (λ p. place_after p (get_or c.args.bytes.now c.loop-i.i 0)) at.4 ∙ sym (behind_more c.loop-i.self.start c.args.bytes.now c.loop-i.i c.loop-i-test.true) in
    (at.0, refl, omega (arith, c.loop-i-test.true), rw c.after-self.ensures (sym step ∙ at.3), rw c.after-self.ensures behind)

pub returns-clause-none : goal.returns-clause-none
returns-clause-none c _ =
    let at = c.loop-i.invariant in
    let found = sym (after_end _ _ c.args.bytes.now c.loop-i.i (omega (arith, c.loop-i-test.false))) ∙ at.3 ∙ ap (λ p. cut_len p c.args.bytes.now) at.0 in
    none_is c.args.self.now.start c.args.bytes.now (sym found)

pub returns-clause-seen : goal.returns-clause-seen
returns-clause-seen c _ =
    let at = c.loop-i.invariant in
    let all = take_all c.loop-i.self.seen c.args.bytes.now (omega (arith, c.loop-i-test.false, at.1)) in
    record {
      within = omega (arith, at.1, at.2);
      none = ap (cut_len c.loop-i.self.start) all ∙ sym at.3 ∙ after_end _ _ c.args.bytes.now c.loop-i.i (omega (arith, c.loop-i-test.false));
      place = at.4 ∙ ap (λ n. place_behind c.loop-i.self.start (take n c.args.bytes.now)) (sym at.1);
    }
