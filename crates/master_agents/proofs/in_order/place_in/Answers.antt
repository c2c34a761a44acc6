use Rattle.std.proofs.Common.{get_or, sym, ap, ◌∙◌, arith, bytes_eq}
use Rattle.master_agents.proofs.Ordered.{beyond, elsewhere, found_at, found_nowhere, other_name}
use Rattle.master_agents.proofs.in_order.place_in.Goals as goal

pub returns-then-place-entries : goal.returns-then-place-entries
returns-then-place-entries c =
    let point = c.count_before-place.ensures.point c.requires in
    sym (beyond c.args.name.now c.args.entries.now (λ k d within. point.0 k d (omega arith) (omega arith)))

pub returns-then-is : goal.returns-then-is
returns-then-is c =
    let name = c.args.name.now in
    let d = c.index-entries-place.result in
    let point = c.count_before-place.ensures.point c.requires in
    let at = ap (λ s. bytes_eq s.name name) (sym c.index-entries-place.is) ∙ ap (λ n. bytes_eq n name) (sym c.name.ensures) ∙ sym c.is.ensures ∙ c.if-is.true in
    sym (found_at name c.args.entries.now c.count_before-place.result d (λ k lt. other_name name (get_or c.args.entries.now k d) (point.0 k d (omega arith) lt)) (omega arith) at)

pub returns-else-is : goal.returns-else-is
returns-else-is c =
    let name = c.args.name.now in
    let ss = c.args.entries.now in
    let place = c.count_before-place.result in
    let d = c.index-entries-place.result in
    let point = c.count_before-place.ensures.point c.requires in
    let here = ap (λ s. bytes_eq s.name name) (sym c.index-entries-place.is) ∙ ap (λ n. bytes_eq n name) (sym c.name.ensures) ∙ sym c.is.ensures ∙ c.if-is.false in
    sym (found_nowhere name ss d (λ k within. elsewhere name ss place k d c.requires (λ j lt. point.0 j d (omega arith) lt) (point.1 place d (omega arith) (omega arith)) here within))
