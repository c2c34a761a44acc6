use Rattle.std.proofs.Common.{◌≡◌, get_or, ap, refl, ◌∙◌, arith}
use Rattle.std.specs.Prelude.{Ok}
use Rattle.quantity.specs.Rows.{Row, amount}
use Rattle.quantity.specs.Merging.{count_below}
use Rattle.quantity.proofs.Adds.{too_large, raised_is_set, row_is_raised, too_many, row_is_new}
use Rattle.quantity.proofs.Texts.{name_is}
use Rattle.quantity.proofs.rows.raise.Goals as goal

pub returns-then-amount-had-clause-refused : goal.returns-then-amount-had-clause-refused
returns-then-amount-had-clause-refused c =
    let had : c.amount_in-had.result ≡ amount c.args.name.now c.args.rows.now.items = rw c.deref-2.ensures.value at c.amount_in-had.ensures.amount in
    too_large c.args.name.now c.args.amount c.args.rows.now.items c.requires.are (omega (arith, had))

pub returns-then-had-gt0-clause-ok : goal.returns-then-had-gt0-clause-ok
returns-then-had-gt0-clause-ok c =
    let name = c.args.name.now in
    let rows = c.args.rows.now.items in
    let at : c.count_below-place.result ≡ count_below name rows = rw c.deref.ensures.value at c.count_below-place.ensures.count in
    let had : c.amount_in-had.result ≡ amount name rows = rw c.deref-2.ensures.value at c.amount_in-had.ensures.amount in
    let stays = raised_is_set name c.args.amount rows c.requires.are.ordered (omega (arith, had)) in
    let named : c.index_mut.result.now.name ≡ name =
    ap (λ (r : Row). r.name) c.index_mut.ensures.value ∙ ap (λ k. (get_or rows k c.index_mut.result.now).name) at ∙ stays.named c.index_mut.result.now in
    row_is_raised name c.args.amount rows c.requires.are (omega (arith, had)) (omega (arith, had))
    ∙ ap Ok (rw (at, named, had) refl)

pub returns-then-len-eq-NAMES_LIMIT-clause-refused : goal.returns-then-len-eq-NAMES_LIMIT-clause-refused
returns-then-len-eq-NAMES_LIMIT-clause-refused c =
    let had : c.amount_in-had.result ≡ amount c.args.name.now c.args.rows.now.items = rw c.deref-2.ensures.value at c.amount_in-had.ensures.amount in
    too_many c.args.name.now c.args.amount c.args.rows.now.items c.requires.are (omega (arith, had)) (omega (arith, had)) (omega (arith, c.len.ensures))

pub returns-clause-ok : goal.returns-clause-ok
returns-clause-ok c =
    let name = c.args.name.now in
    let rows = c.args.rows.now.items in
    let at : c.count_below-place.result ≡ count_below name rows = rw c.deref.ensures.value at c.count_below-place.ensures.count in
    let had : c.amount_in-had.result ≡ amount name rows = rw c.deref-2.ensures.value at c.amount_in-had.ensures.amount in
    row_is_new name c.args.amount rows c.requires.are (omega (arith, had)) (omega (arith, had)) (omega (arith, c.len.ensures, c.requires.are.few))
    ∙ ap Ok (rw (c.in_ok-insert.ensures.items, at, name_is name c.in_ok-name.name c.in_ok-name.ensures.ok) refl)

pub index_mut-requires : goal.index_mut-requires
index_mut-requires c =
    let name = c.args.name.now in
    let rows = c.args.rows.now.items in
    let at : c.count_below-place.result ≡ count_below name rows = rw c.deref.ensures.value at c.count_below-place.ensures.count in
    let had : c.amount_in-had.result ≡ amount name rows = rw c.deref-2.ensures.value at c.amount_in-had.ensures.amount in
    omega (arith, at, (raised_is_set name c.args.amount rows c.requires.are.ordered (omega (arith, had))).within)
