use Rattle.std.proofs.Common.{◌≡◌, Option, Some, None, IfSome, ap, sym, subst, ◌∙◌}
use Rattle.std.specs.Prelude.{is_some}
use Rattle.std.specs.List.{find, position}
use Rattle.drf_shares.specs.Sums.{IsSum}
use Rattle.drf_pick.specs.Shares.{Holder, Tally, is_holder, is_role}
use Rattle.drf_pick.specs.Shown.{HoldSums}
use Rattle.drf_pick.proofs.Places.{first_at, none_at}
use Rattle.drf_pick.proofs.holdings.Holdings.is_registered.Goals as goal

pub returns-in_default-clause-registered : goal.returns-in_default-clause-registered
returns-in_default-clause-registered c =
    let test = is_holder c.args.framework in
    let hs = c.self.inside.holders.items in
    let at : position test hs ≡ None = sym (rw c.deref.ensures.value at c.known_place.ensures) ∙ c.in_default.is in
    ap (λ (o : Option Holder). is_some o) (sym (none_at test hs at)) ∙ ap (λ (x : Tally). is_some (find test x.holders)) c.self.view_is

pub returns-in_default-clause-sums : goal.returns-in_default-clause-sums
returns-in_default-clause-sums c =
    let test = is_holder c.args.framework in
    let hs = c.self.inside.holders.items in
    let at : position test hs ≡ None = sym (rw c.deref.ensures.value at c.known_place.ensures) ∙ c.in_default.is in
    subst (HoldSums c.args.framework) c.self.view_is (subst (λ (o : Option Holder). IfSome o (λ h. IsSum h.held × IfSome (find (is_role h.role) c.self.inside.roles) (λ r. IsSum r.held))) (sym (none_at test hs at)) tt)

pub returns-clause-registered : goal.returns-clause-registered
returns-clause-registered c =
    let test = is_holder c.args.framework in
    let hs = c.self.inside.holders.items in
    let at : position test hs ≡ Some c.in-Some.place = sym (rw c.deref.ensures.value at c.known_place.ensures) ∙ c.in-Some.is in
    let first = first_at test hs c.in-Some.place c.index-holder.result.now at c.index-holder.ensures in
    ap (λ (o : Option Holder). is_some o) (sym first.found) ∙ ap (λ (x : Tally). is_some (find test x.holders)) c.self.view_is

pub returns-clause-sums : goal.returns-clause-sums
returns-clause-sums c =
    let test = is_holder c.args.framework in
    let hs = c.self.inside.holders.items in
    let item = c.index-holder.result.now in
    let at : position test hs ≡ Some c.in-Some.place = sym (rw c.deref.ensures.value at c.known_place.ensures) ∙ c.in-Some.is in
    let first = first_at test hs c.in-Some.place item at c.index-holder.ensures in
    let its : IsSum item.held × IfSome (find (is_role item.role) c.self.inside.roles) (λ r. IsSum r.held) = (c.rows-held.ensures.sum, c.is_role_sum.ensures) in
    subst (HoldSums c.args.framework) c.self.view_is (subst (λ (o : Option Holder). IfSome o (λ h. IsSum h.held × IfSome (find (is_role h.role) c.self.inside.roles) (λ r. IsSum r.held))) (sym first.found) its)
