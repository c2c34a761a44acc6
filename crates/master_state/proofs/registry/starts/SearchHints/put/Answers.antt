use Rattle.std.proofs.Common.{Some, sym, subst}
use Rattle.master_state.specs.Starts.{AreStarts}
use Rattle.master_state.proofs.Searches.{pushed, set_at}
use Rattle.master_state.proofs.registry.starts.SearchHints.put.Goals as goal

pub returns-in_err-fill_to : goal.returns-in_err-fill_to
returns-in_err-fill_to c = λ fs h is. c.in_err-fill_to.ensures fs (subst (AreStarts fs) (sym c.self.view_is) h)

pub returns-in_err-push : goal.returns-in_err-push
returns-in_err-push c = λ fs h is. rw c.in_err-push.ensures.items (c.in_ok-fill_to.ensures fs (subst (AreStarts fs) (sym c.self.view_is) h))

pub returns-then-place-len : goal.returns-then-place-len
returns-then-place-len c = λ fs h is. rw c.set.ensures (set_at fs c.fill_to.new.items.items c.args.place (Some c.args.start) is (c.in_ok-fill_to.ensures fs (subst (AreStarts fs) (sym c.self.view_is) h)))

pub returns-in_ok-push : goal.returns-in_ok-push
returns-in_ok-push c = λ fs h is. rw c.in_ok-push.ensures.items (pushed fs c.fill_to.new.items.items (Some c.args.start) is (c.in_ok-fill_to.ensures fs (subst (AreStarts fs) (sym c.self.view_is) h)))
