use Rattle.std.proofs.Common.{◌≡◌, true, ap, sym, ◌∙◌, refl, Err}
use Rattle.quantity.specs.Rows.{covers, rest_of}
use Rattle.drf_pick.specs.Shares.{Holder, is_holder, returning}
use Rattle.drf_shares.specs.declared.fault.SharesFault.{SharesFault}
use Rattle.drf_shares.specs.declared.fault.SharesFault.TheVariants.{NotHeld}
use Rattle.drf_pick.proofs.Places.{first_at, none_at}
use Rattle.drf_pick.proofs.holdings.back_in.Goals as goal

pub returns-in_default-clause-refused : goal.returns-in_default-clause-refused
returns-in_default-clause-refused c = λ e. rw (none_at (is_holder c.args.framework) c.args.holders.now.items (sym (rw c.deref.ensures.value at c.holder_place.ensures) ∙ c.in_default.is)) refl

pub returns-in-Ok-back-clause-holders : goal.returns-in-Ok-back-clause-holders
returns-in-Ok-back-clause-holders c =
    let read = first_at (is_holder c.args.framework) c.args.holders.now.items c.in-Some.place c.index.result.now (sym (rw c.deref.ensures.value at c.holder_place.ensures) ∙ c.in-Some.is) c.index.ensures in
    let first = first_at (is_holder c.args.framework) c.args.holders.now.items c.in-Some.place c.index_mut.result.now (sym (rw c.deref.ensures.value at c.holder_place.ensures) ∙ c.in-Some.is) c.index_mut.ensures.value in
    let same : c.index.result.now ≡ c.index_mut.result.now = cc (read.found, first.found) in
    let held : c.in-Ok.held ≡ rest_of c.index_mut.result.now.held c.args.resources.now =
    c.in-Ok.ensures.ok ∙ ap (λ (h : Holder). rest_of h.held c.args.resources.now) same in
    rw held (sym (first.changed (returning c.args.resources.now)))

pub returns-in-Ok-back-clause-roles : goal.returns-in-Ok-back-clause-roles
returns-in-Ok-back-clause-roles c =
    let again = first_at (is_holder c.args.framework) c.args.holders.now.items c.in-Some.place c.index-in-Ok.result.now (sym (rw c.deref.ensures.value at c.holder_place.ensures) ∙ c.in-Some.is) c.index-in-Ok.ensures in
    rw again.found c.in-Ok-back.ensures.ok

pub returns-in-Ok-back-clause-covered : goal.returns-in-Ok-back-clause-covered
returns-in-Ok-back-clause-covered c =
    let read = first_at (is_holder c.args.framework) c.args.holders.now.items c.in-Some.place c.index.result.now (sym (rw c.deref.ensures.value at c.holder_place.ensures) ∙ c.in-Some.is) c.index.ensures in
    let again = first_at (is_holder c.args.framework) c.args.holders.now.items c.in-Some.place c.index-in-Ok.result.now (sym (rw c.deref.ensures.value at c.holder_place.ensures) ∙ c.in-Some.is) c.index-in-Ok.ensures in
    let same : c.index-in-Ok.result.now ≡ c.index.result.now = cc (read.found, again.found) in
    let covered : covers c.index-in-Ok.result.now.held c.args.resources.now ≡ true = ap (λ (h : Holder). covers h.held c.args.resources.now) same ∙ c.in-Ok.ensures.covered in
    rw (again.found, covered) c.in-Ok-back.ensures.covered

pub returns-in-Err-back-clause-refused : goal.returns-in-Err-back-clause-refused
returns-in-Err-back-clause-refused c = λ e.
    let read = first_at (is_holder c.args.framework) c.args.holders.now.items c.in-Some.place c.index.result.now (sym (rw c.deref.ensures.value at c.holder_place.ensures) ∙ c.in-Some.is) c.index.ensures in
    let again = first_at (is_holder c.args.framework) c.args.holders.now.items c.in-Some.place c.index-in-Ok.result.now (sym (rw c.deref.ensures.value at c.holder_place.ensures) ∙ c.in-Some.is) c.index-in-Ok.ensures in
    let same : c.index-in-Ok.result.now ≡ c.index.result.now = cc (read.found, again.found) in
    let covered : covers c.index-in-Ok.result.now.held c.args.resources.now ≡ true = ap (λ (h : Holder). covers h.held c.args.resources.now) same ∙ c.in-Ok.ensures.covered in
    rw (again.found, covered) (c.in-Err-back.ensures.refused e)

pub returns-in-Err-clause-refused : goal.returns-in-Err-clause-refused
returns-in-Err-clause-refused c = λ e.
    let is : c.in-Err.fault ≡ NotHeld = cc in
    let read = first_at (is_holder c.args.framework) c.args.holders.now.items c.in-Some.place c.index.result.now (sym (rw c.deref.ensures.value at c.holder_place.ensures) ∙ c.in-Some.is) c.index.ensures in
    rw (read.found, c.in-Err.ensures.refused (ap (λ (f : SharesFault). Err f) is)) refl
