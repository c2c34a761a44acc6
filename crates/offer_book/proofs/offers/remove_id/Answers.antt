use Rattle.std.proofs.Common.{◌<◌, length, not, filter, sym, arith}
use Rattle.offer_book.specs.Lists.{same_id}
use Rattle.offer_book.proofs.Standing.{id_lists_set, at_place-past, length-id_lists}
use Rattle.offer_book.proofs.offers.remove_id.Goals as goal

pub returns-then-place-len : goal.returns-then-place-len
returns-then-place-len c =
    let within : c.args.place < length c.args.ids.now.items = omega arith in
    id_lists_set c.args.ids.now.items c.args.place c.index_mut.result.now c.keep_others.new.ids (λ ks. filter (λ k. not (same_id c.args.id k)) ks) within c.index_mut.ensures.value c.keep_others.ensures

pub returns-else-place-len : goal.returns-else-place-len
returns-else-place-len c = sym (at_place-past _ c.args.place _ (omega (arith, length-id_lists c.args.ids.now.items)))
