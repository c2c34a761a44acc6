use Rattle.std.proofs.Common.{◌++◌, ◌∷◌, []}
use Rattle.offer_book.proofs.Standing.{id_lists_set, id_lists_same, on_err}
use Rattle.offer_book.proofs.offers.push_id.Goals as goal

pub returns-in_err-push-clause-err : goal.returns-in_err-push-clause-err
returns-in_err-push-clause-err c = on_err _ (id_lists_same c.args.ids.now.items c.args.place c.index_mut.result.now c.push.new.self c.requires c.index_mut.ensures.value c.in_err-push.ensures.items)

pub returns-clause-ok : goal.returns-clause-ok
returns-clause-ok c = id_lists_set c.args.ids.now.items c.args.place c.index_mut.result.now c.push.new.self (λ ks. ks ++ c.args.id ∷ []) c.requires c.index_mut.ensures.value c.in_ok-push.ensures.items
