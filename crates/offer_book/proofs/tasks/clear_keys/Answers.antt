use Rattle.std.proofs.Common.{◌<◌, [], length, sym, arith}
use Rattle.offer_book.proofs.Standing.{id_lists_set, at_place-past, length-id_lists}
use Rattle.offer_book.proofs.tasks.clear_keys.Goals as goal

pub returns-then-place-len : goal.returns-then-place-len
returns-then-place-len c =
    let within : c.args.place < length c.args.keys.now.items = omega arith in
    id_lists_set c.args.keys.now.items c.args.place c.index_mut.result.now c.clear.new.self (λ ks. []) within c.index_mut.ensures.value c.clear.ensures.items

pub returns-else-place-len : goal.returns-else-place-len
returns-else-place-len c = sym (at_place-past _ c.args.place _ (omega (arith, length-id_lists c.args.keys.now.items)))
