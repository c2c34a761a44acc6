use Rattle.std.proofs.Common.{rules, ◌≡◌, true, false, not, ap, sym, subst, ◌∙◌}
use Rattle.names_core.specs.Ids.{before}
use Rattle.cluster_model.specs.Rounds.{Share, share}
use Rattle.drf_shares.specs.Dominant.{is_at_most}
use Rattle.drf_shares.specs.Sums.{IsSum}
use Rattle.drf_pick.specs.Shares.{Tally}
use Rattle.drf_pick.specs.Least.{held_by}
use Rattle.drf_pick.proofs.ByFractions.{Compared, is_first, is_later, is_tied}
use Rattle.drf_pick.proofs.least.comes_within_role.Goals as goal

pub returns-then-not-is_at_most : goal.returns-then-not-is_at_most
returns-then-not-is_at_most c =
    let t : Tally = c.args.shares.now in
    let a : Share = share (held_by t c.args.first) 1 in
    let b : Share = share (held_by t c.args.second) 1 in
    let f = c.args.one in
    let g = c.args.other in
    let sum : IsSum t.totals = subst IsSum (c.totals.ensures ∙ ap (λ (x : Tally). x.totals) c.shares.view_is) c.rows-ordered.ensures.sum in
    let two : Compared t.totals a b f g = record { sum = sum; one = c.requires.one; other = c.requires.other } in
    let under : is_at_most f 1 g 1 ≡ true = sym c.is_at_most.ensures ∙ c.if-is_at_most.true in
    let above : is_at_most g 1 f 1 ≡ false = sym c.is_at_most-then-is_at_most.ensures ∙ c.if-not-is_at_most.true in
    ap not c.if-not-is_at_most.true ∙ sym (is_first t.totals a b f g (before c.args.first c.args.second) two under above)

pub returns-else-not-is_at_most : goal.returns-else-not-is_at_most
returns-else-not-is_at_most c =
    let t : Tally = c.args.shares.now in
    let a : Share = share (held_by t c.args.first) 1 in
    let b : Share = share (held_by t c.args.second) 1 in
    let f = c.args.one in
    let g = c.args.other in
    let sum : IsSum t.totals = subst IsSum (c.totals.ensures ∙ ap (λ (x : Tally). x.totals) c.shares.view_is) c.rows-ordered.ensures.sum in
    let two : Compared t.totals a b f g = record { sum = sum; one = c.requires.one; other = c.requires.other } in
    let under : is_at_most f 1 g 1 ≡ true = sym c.is_at_most.ensures ∙ c.if-is_at_most.true in
    let also : is_at_most g 1 f 1 ≡ true = sym c.is_at_most-then-is_at_most.ensures ∙ c.if-not-is_at_most.false in
    let is : c.lt.result ≡ before c.args.first c.args.second = search rules in
    is ∙ sym (is_tied t.totals a b f g (before c.args.first c.args.second) two under also)

pub returns-else-is_at_most : goal.returns-else-is_at_most
returns-else-is_at_most c =
    let t : Tally = c.args.shares.now in
    let a : Share = share (held_by t c.args.first) 1 in
    let b : Share = share (held_by t c.args.second) 1 in
    let f = c.args.one in
    let g = c.args.other in
    let sum : IsSum t.totals = subst IsSum (c.totals.ensures ∙ ap (λ (x : Tally). x.totals) c.shares.view_is) c.rows-ordered.ensures.sum in
    let two : Compared t.totals a b f g = record { sum = sum; one = c.requires.one; other = c.requires.other } in
    let above : is_at_most f 1 g 1 ≡ false = sym c.is_at_most.ensures ∙ c.if-is_at_most.false in
    c.if-is_at_most.false ∙ sym (is_later t.totals a b f g (before c.args.first c.args.second) two above)
