use Rattle.std.proofs.Common.{◌≡◌, ◌+◌, ◌-◌, ◌<◌, ◌≤◌, ◌⊎◌, inl, inr, [], ◌∷◌, ◌++◌, length, take, drop, sym, ap, ◌∙◌, le_trans, arith}
use Rattle.std.proofs.lemmas.List.{length-drop, length-take}
use Rattle.stream_core.specs.Links.{applied, newly_applied}
use Rattle.stream_core.proofs.Links.{applied_so, newly_so, none_applied, none_newly, within_numbers}
use Rattle.stream_core.proofs.Lists.{next_taken}
use Rattle.stream_core.proofs.link.LinkOut.applied.Given.{Over}
use Rattle.stream_core.proofs.link.LinkOut.applied.Goals as goal
use Rattle.stream_core.proofs.link.LinkOut.applied.Goals.{then-count-self-via-then-count-self, then-count-self-via-else-count-self+then-count-self-2}

pub loop-preserved : goal.loop-preserved
loop-preserved g c = (
  (rw c.unwrap-in-loop.ensures at c.push.ensures.items) ∙ (ap (λ taken. taken ++ c.unwrap.result ∷ []) c.loop.invariant.0 ∙ sym next.0),
  sym next.1,
  omega (arith, c.loop.invariant, c.loop-test.true),
  le_trans c.loop.invariant.3 c.push.ensures.capacity,
)
  where
    left : drop c.loop.counter c.self.inside.waiting.items ≡ c.unwrap.result ∷ c.pop_front.new.self.items
    left = sym c.loop.invariant.1 ∙ (rw c.unwrap.ensures at c.pop_front.ensures.items)

    next : (take (c.loop.counter + 1) c.self.inside.waiting.items ≡ take c.loop.counter c.self.inside.waiting.items ++ c.unwrap.result ∷ []) × (drop (c.loop.counter + 1) c.self.inside.waiting.items ≡ c.pop_front.new.self.items)
    next = next_taken c.loop.counter c.self.inside.waiting.items c.unwrap.result c.pop_front.new.self.items left

-- all that the count tells of are taken
whole : (g : Over) (c : goal.After-self-1 g) → c.loop.counter ≡ c.args.count - c.self.inside.known
whole g c = omega (arith, c.loop.invariant.2, c.loop-test.false)

above : (g : Over) (c : goal.After-self-1 g) → c.self.inside.known < c.args.count
above g c = omega (arith, c.if-count-self.false)

within : (g : Over) (c : goal.After-self-1 g) → c.args.count - c.self.inside.known ≤ length c.self.inside.waiting.items
within g c = omega (arith, c.if-count-self-2.false, c.len.ensures)

pub returns-clause-newly : goal.returns-clause-newly
returns-clause-newly g c =
    newly_so c.args.count (record { waiting = c.self.inside.waiting.items; known = c.self.inside.known }) c.loop.newly.items (above g c) (within g c) (c.loop.invariant.0 ∙ ap (λ n. take n c.self.inside.waiting.items) (whole g c))
    ∙ ap (newly_applied c.args.count) c.self.view_is

pub returns-clause-ok : goal.returns-clause-ok
returns-clause-ok g c =
    applied_so c.args.count (record { waiting = c.self.inside.waiting.items; known = c.self.inside.known }) c.loop.self-inside.waiting.items (above g c) (within g c) (c.loop.invariant.1 ∙ ap (λ n. drop n c.self.inside.waiting.items) (whole g c))
    ∙ ap (applied c.args.count) c.self.view_is

pub invariant_of-self : goal.invariant_of-self
invariant_of-self g c =
    within_numbers c.args.count (record { waiting = c.self.inside.waiting.items; known = c.self.inside.known }) c.loop.self-inside.waiting.items (above g c) (within g c) c.self.invariant (c.loop.invariant.1 ∙ ap (λ n. drop n c.self.inside.waiting.items) (whole g c))

-- the count is known, or over what was issued
old : (g : Over) (c : goal.After-new g) → (c.args.count ≤ c.self.inside.known) ⊎ (length c.self.inside.waiting.items < c.args.count - c.self.inside.known)
old g c = elim c.then-count-self.branch [ then-count-self-via-then-count-self w ↦ inl (omega (arith, w.if-count-self.true)) | then-count-self-via-else-count-self+then-count-self-2 w ↦ inr (omega (arith, w.if-count-self-2.true, w.len.ensures)) ]

pub returns-then-count-self-clause-newly : goal.returns-then-count-self-clause-newly
returns-then-count-self-clause-newly g c =
    none_newly c.args.count (record { waiting = c.self.inside.waiting.items; known = c.self.inside.known }) c.new.result.items (old g c) c.new.ensures.items
    ∙ ap (newly_applied c.args.count) c.self.view_is

pub returns-then-count-self-clause-ok : goal.returns-then-count-self-clause-ok
returns-then-count-self-clause-ok g c =
    sym c.self.view_is
    ∙ none_applied c.args.count (record { waiting = c.self.inside.waiting.items; known = c.self.inside.known }) (old g c)
    ∙ ap (applied c.args.count) c.self.view_is

pub unwrap-requires : goal.unwrap-requires
unwrap-requires g c =
    let size = ap length c.loop.invariant.1 ∙ length-drop c.loop.counter c.self.inside.waiting.items in
    let fits : c.args.count - c.self.inside.known ≤ length c.self.inside.waiting.items = omega (arith, c.if-count-self-2.false, c.len.ensures) in
    c.pop_front.ensures.variant.1 (omega (arith, size, fits, c.loop-test.true))

pub unwrap-requires-in-loop : goal.unwrap-requires-in-loop
unwrap-requires-in-loop g c =
    let size = ap length c.loop.invariant.0 ∙ length-take c.loop.counter c.self.inside.waiting.items in
    c.push.ensures.succeeds (omega (arith, size, c.loop.invariant.3, c.loop-test.true))
