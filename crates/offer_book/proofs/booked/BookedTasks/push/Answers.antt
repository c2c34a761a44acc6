use Rattle.std.proofs.Common.{◌≡◌, ℕ, List, ◌++◌, ◌∷◌, [], map, cond, zero, sym, ap, subst, ◌∙◌}
use Rattle.names_core.specs.Ids.{Numbered}
use Rattle.offer_book.specs.Lists.{at_place, find, without}
use Rattle.offer_book.specs.Names.{IsIndex, is_named, keys_named}
use Rattle.offer_book.proofs.Taking.{without_push}
use Rattle.offer_book.proofs.Indexing.{index_push, index_same}
use Rattle.offer_book.proofs.booked.BookedTasks.push.Goals as goal

pub invariant_of-self-in-Ok : goal.invariant_of-self-in-Ok
invariant_of-self-in-Ok c =
    let key = c.args.task.job.key in
    let names = c.self.inside.names in
    let l = c.args.self.now in
    let is : IsIndex names l = subst (IsIndex names) c.self.view_is c.self.invariant in
    let pushed : c.push.new.self ≡ at_place c.args.place (λ bs. bs ++ c.args.task ∷ []) l = c.in_ok-push.ensures.ok ∙ ap (at_place c.args.place (λ bs. bs ++ c.args.task ∷ [])) c.self.view_is in
    subst (IsIndex c.add_name.new.names) (sym pushed) (index_push names c.add_name.new.names l c.args.place c.args.task c.requires.within c.requires.new is
    (subst (λ m. (f : Numbered) (text : List ℕ) → keys_named f text c.add_name.new.names
    ≡ cond (is_named f text (find (λ x. x.job.key) key m)) (keys_named f text names ++ key ∷ []) (keys_named f text names)) pushed c.in-Ok.ensures.ok))

pub invariant_of-self-in-Err : goal.invariant_of-self-in-Err
invariant_of-self-in-Err c =
    let key = c.args.task.job.key in
    let names = c.self.inside.names in
    let l = c.args.self.now in
    let is : IsIndex names l = subst (IsIndex names) c.self.view_is c.self.invariant in
    let pushed : c.push.new.self ≡ at_place c.args.place (λ bs. bs ++ c.args.task ∷ []) l = c.in_ok-push.ensures.ok ∙ ap (at_place c.args.place (λ bs. bs ++ c.args.task ∷ [])) c.self.view_is in
    let back : c.remove.new.self ≡ l = c.remove.ensures.others ∙ ap (map (without (λ x. x.job.key) key)) pushed ∙ without_push (λ x. x.job.key) l zero c.args.place c.args.task c.requires.new in
    subst (IsIndex c.add_name.new.names) (sym back) (index_same names c.add_name.new.names l is c.in-Err.ensures.err)

pub returns-in-Err-clause-err : goal.returns-in-Err-clause-err
returns-in-Err-clause-err c =
    let key = c.args.task.job.key in
    let l = c.args.self.now in
    let pushed : c.push.new.self ≡ at_place c.args.place (λ bs. bs ++ c.args.task ∷ []) l = c.in_ok-push.ensures.ok ∙ ap (at_place c.args.place (λ bs. bs ++ c.args.task ∷ [])) c.self.view_is in
    c.remove.ensures.others ∙ ap (map (without (λ x. x.job.key) key)) pushed ∙ without_push (λ x. x.job.key) l zero c.args.place c.args.task c.requires.new
