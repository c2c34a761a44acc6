use Rattle.std.proofs.Common.{◌≡◌, not, ap, sym, subst, ◌∙◌}
use Rattle.cluster_model.specs.Ids.{bytes_before}
use Rattle.cluster_model.specs.Rounds.{Share}
use Rattle.drf_shares.specs.Dominant.{is_at_most}
use Rattle.drf_shares.specs.Sums.{IsSum}
use Rattle.drf_pick.specs.Shares.{Tally}
use Rattle.drf_pick.specs.Least.{role_share}
use Rattle.drf_pick.proofs.ByFractions.{Compared, by_weights, is_first, is_later, is_tied}
use Rattle.drf_pick.proofs.least.comes_by_role.Goals as goal

pub returns-then-not-is_at_most : goal.returns-then-not-is_at_most
returns-then-not-is_at_most c =
    let t : Tally = c.args.shares.now in
    let a : Share = role_share t.roles c.args.first.now in
    let b : Share = role_share t.roles c.args.second.now in
    let one = c.requires.one in
    let other = c.requires.other in
    let f = c.args.one.fraction in
    let g = c.args.other.fraction in
    let sum : IsSum t.totals = subst IsSum (c.totals.ensures ∙ ap (λ (x : Tally). x.totals) c.shares.view_is) c.rows-ordered.ensures.sum in
    let two : Compared t.totals a b f g = record { sum = sum; one = one.fraction; other = other.fraction } in
    let forth : c.is_at_most.result ≡ is_at_most f a.weight g b.weight = c.is_at_most.ensures ∙ by_weights f c.args.one.weight a.weight g c.args.other.weight b.weight one.weight other.weight in
    let back : c.is_at_most-then-is_at_most.result ≡ is_at_most g b.weight f a.weight = c.is_at_most-then-is_at_most.ensures ∙ by_weights g c.args.other.weight b.weight f c.args.one.weight a.weight other.weight one.weight in
    let above = sym back ∙ c.if-not-is_at_most.true in
    ap not c.if-not-is_at_most.true ∙ sym (is_first t.totals a b f g (bytes_before c.args.first.now c.args.second.now) two (sym forth ∙ c.if-is_at_most.true) above)

pub returns-else-not-is_at_most : goal.returns-else-not-is_at_most
returns-else-not-is_at_most c =
    let t : Tally = c.args.shares.now in
    let a : Share = role_share t.roles c.args.first.now in
    let b : Share = role_share t.roles c.args.second.now in
    let one = c.requires.one in
    let other = c.requires.other in
    let f = c.args.one.fraction in
    let g = c.args.other.fraction in
    let sum : IsSum t.totals = subst IsSum (c.totals.ensures ∙ ap (λ (x : Tally). x.totals) c.shares.view_is) c.rows-ordered.ensures.sum in
    let two : Compared t.totals a b f g = record { sum = sum; one = one.fraction; other = other.fraction } in
    let forth : c.is_at_most.result ≡ is_at_most f a.weight g b.weight = c.is_at_most.ensures ∙ by_weights f c.args.one.weight a.weight g c.args.other.weight b.weight one.weight other.weight in
    let back : c.is_at_most-then-is_at_most.result ≡ is_at_most g b.weight f a.weight = c.is_at_most-then-is_at_most.ensures ∙ by_weights g c.args.other.weight b.weight f c.args.one.weight a.weight other.weight one.weight in
    let also = sym back ∙ c.if-not-is_at_most.false in
    c.is_before.ensures ∙ sym (is_tied t.totals a b f g (bytes_before c.args.first.now c.args.second.now) two (sym forth ∙ c.if-is_at_most.true) also)

pub returns-else-is_at_most : goal.returns-else-is_at_most
returns-else-is_at_most c =
    let t : Tally = c.args.shares.now in
    let a : Share = role_share t.roles c.args.first.now in
    let b : Share = role_share t.roles c.args.second.now in
    let one = c.requires.one in
    let other = c.requires.other in
    let f = c.args.one.fraction in
    let g = c.args.other.fraction in
    let sum : IsSum t.totals = subst IsSum (c.totals.ensures ∙ ap (λ (x : Tally). x.totals) c.shares.view_is) c.rows-ordered.ensures.sum in
    let two : Compared t.totals a b f g = record { sum = sum; one = one.fraction; other = other.fraction } in
    let forth : c.is_at_most.result ≡ is_at_most f a.weight g b.weight = c.is_at_most.ensures ∙ by_weights f c.args.one.weight a.weight g c.args.other.weight b.weight one.weight other.weight in
    c.if-is_at_most.false ∙ sym (is_later t.totals a b f g (bytes_before c.args.first.now c.args.second.now) two (sym forth ∙ c.if-is_at_most.false))
