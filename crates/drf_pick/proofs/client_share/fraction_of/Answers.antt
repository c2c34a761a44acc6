use Rattle.std.proofs.Common.{◌≡◌, List, [], None, Some, ap, sym, subst, ◌∙◌, arith}
use Rattle.std.specs.List.{find, position}
use Rattle.quantity.specs.declared.rows.Row.{Row}
use Rattle.drf_shares.specs.Dominant.{IsDominant, Part}
use Rattle.drf_shares.proofs.Dominating.{nothing_held}
use Rattle.drf_pick.specs.Shares.{Tally, is_holder}
use Rattle.drf_pick.specs.Fractions.{holder_held}
use Rattle.drf_pick.specs.Least.{held_by, held_of}
use Rattle.drf_pick.proofs.KeptShares.{beside, room, stands}
use Rattle.drf_pick.proofs.Places.{none_at}
use Rattle.drf_pick.proofs.client_share.fraction_of.Goals as goal

pub index-requires : goal.index-requires
index-requires c =
    let s = c.shares.inside in
    let t : Tally = s.holdings in
    let at : position (is_holder c.args.framework) t.holders ≡ Some c.in-Some.place = sym c.place.ensures ∙ c.in-Some.is in
    let found = stands (is_holder c.args.framework) t.holders c.in-Some.place at in
    omega (arith, found.within, room holder_held t.totals t.holders s.fractions.items c.shares.invariant.0, s.fractions.ok.0)

pub returns-in-Some : goal.returns-in-Some
returns-in-Some c =
    let s = c.shares.inside in
    let t : Tally = s.holdings in
    let f = c.args.framework in
    let at : position (is_holder f) t.holders ≡ Some c.in-Some.place = sym c.place.ensures ∙ c.in-Some.is in
    let found = stands (is_holder f) t.holders c.in-Some.place at in
    let its = beside holder_held t.totals t.holders s.fractions.items c.in-Some.place found.item c.index.result.now c.shares.invariant.0 found.within found.is c.index.ensures in
    subst (λ (x : Tally). IsDominant x.totals (held_by x f) c.index.result.now) c.shares.view_is (subst (λ (rows : List Row). IsDominant t.totals rows c.index.result.now) (sym (ap held_of found.found)) its)

pub returns-in-None : goal.returns-in-None
returns-in-None c =
    let t : Tally = c.shares.inside.holdings in
    let f = c.args.framework in
    let none : find (is_holder f) t.holders ≡ None = none_at (is_holder f) t.holders (sym c.place.ensures ∙ c.in-None.is) in
    let its : IsDominant t.totals [] c.nothing.result = subst (λ (p : Part). IsDominant t.totals [] p) (sym c.nothing.ensures) (nothing_held t.totals) in
    subst (λ (x : Tally). IsDominant x.totals (held_by x f) c.nothing.result) c.shares.view_is (subst (λ (rows : List Row). IsDominant t.totals rows c.nothing.result) (sym (ap held_of none)) its)
