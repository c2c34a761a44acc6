use Rattle.std.proofs.Common.{Ok, ◌++◌, [], sym, ap, ◌∙◌, refl, arith, append-nil}
use Rattle.http_head.proofs.Cuts.{seen_nothing}
use Rattle.http_head.proofs.RequestParts.{joins, part_at, overlong_none, overlong_some, all_searched}
use Rattle.http_head.proofs.request.part.next_part.Goals as goal

pub loop-len-init : goal.loop-len-init
loop-len-init g c = (
  ([], g.met.I.Inlet.reads_nothing _, sym (append-nil c.args.unread.now)),
  refl,
  seen_nothing c.new-scan.result c.args.unread.now c.new-scan.ensures.seen (c.new-scan.ensures.place ∙ sym c.new-scan.ensures.start),
  c.new-scan.ensures.start,
)

pub returns-in-Some-clause-found : goal.returns-in-Some-clause-found
returns-in-Some-clause-found g c =
    let at = c.loop-len.invariant in
    let part = rw (c.as_slice-bytes.ensures, at.3) at c.in-Some.ensures.part in
    let within = rw c.as_slice-bytes.ensures at c.in-Some.ensures.within in
    (part_at c.args.place c.loop-len.unread c.in-Some.len part within c.if-len-le-MAX_PART.true, within)

pub returns-in-Some-2-clause-found : goal.returns-in-Some-2-clause-found
returns-in-Some-2-clause-found g c =
    let at = c.loop-len.invariant in
    let part = rw (c.as_slice-bytes.ensures, at.3) at c.in-Some.ensures.part in
    let within = rw c.as_slice-bytes.ensures at c.in-Some.ensures.within in
    overlong_some c.args.place c.loop-len.unread c.in-Some.len part within (omega (arith, c.if-len-le-MAX_PART.false))

pub returns-then-bytes-gt-MAX_PART-clause-found : goal.returns-then-bytes-gt-MAX_PART-clause-found
returns-then-bytes-gt-MAX_PART-clause-found g c =
    let at = c.loop-len.invariant in
    let none = rw (c.as_slice-bytes.ensures, at.3) at (c.in-None.ensures.none refl) in
    overlong_none c.args.place c.loop-len.unread none (rw c.as_slice-bytes.ensures at c.if-bytes-gt-MAX_PART.true)

pub returns-in-Ok-true-clause-found : goal.returns-in-Ok-true-clause-found
returns-in-Ok-true-clause-found g c =
    let at = c.loop-len.invariant in
    let none = rw (c.as_slice-bytes.ensures, at.3) at (c.in-None.ensures.none refl) in
    let seen = rw c.as_slice-bytes.ensures at (c.in-None.ensures.seen refl) in
    let all = rw c.as_slice-bytes.ensures at (c.in-None.ensures.all refl) in
    let few = rw c.as_slice-bytes.ensures at c.if-bytes-gt-MAX_PART.false in
    let end = c.in-Ok-true.ensures.end (ap (λ b. Ok b) c.in-Ok-true.field-0-test) in
    let blank = all_searched c.look.new.self c.args.place c.loop-len.unread seen (c.in-None.ensures.start ∙ at.3) all in
    rw end.1 (record { at_end = end.0; uncut = none; within = few }, blank)

pub returns-in-Ok-true-clause-came : goal.returns-in-Ok-true-clause-came
returns-in-Ok-true-clause-came g c =
    let before = c.loop-len.invariant.0 in
    let now = c.in-Ok-true.ensures.came in
    (before.0 ++ now.0, g.met.I.Inlet.reads_more _ _ _ _ _ before.1 now.1, joins _ before.0 now.0 _ _ before.2 now.2)

pub returns-in-Err-clause-came : goal.returns-in-Err-clause-came
returns-in-Err-clause-came g c =
    let before = c.loop-len.invariant.0 in
    let now = c.in-Err.ensures.came in
    (before.0 ++ now.0, g.met.I.Inlet.reads_more _ _ _ _ _ before.1 now.1, tt)
