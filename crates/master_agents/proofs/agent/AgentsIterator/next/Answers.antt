use Rattle.std.proofs.Common.{◌≡◌, ◌+◌, suc, [], ◌∷◌, drop, length, sym, ap, subst, ◌∙◌, arith}
use Rattle.master_agents.specs.Joined.{AreOfOne, join, joined}
use Rattle.master_agents.proofs.Reading.{drop_got, drop_past, joined_nil}
use Rattle.master_agents.proofs.agent.AgentsIterator.next.Goals as goal

pub returns-in_default-account_at-clause-steps : goal.returns-in_default-account_at-clause-steps
returns-in_default-account_at-clause-steps c =
    let a = c.self.inside in
    let none : c.args.self.now ≡ [] = sym c.self.view_is ∙ ap (joined a.entries.now) (drop_past a.book.now a.place c.in_default-account_at.ensures) ∙ joined_nil a.entries.now in
    (none, none)

pub invariant_of-self : goal.invariant_of-self
invariant_of-self c =
    let a = c.self.inside in
    let split = c.in-Some.ensures.cases.0 in
    let next : suc a.place ≡ a.place + 1 = omega arith in
    let both : AreOfOne (c.in-Some.entry.now ∷ c.in-Some.others.now) (c.in-Some-account_at.account ∷ drop (suc a.place) a.book.now) =
    subst (λ ss. AreOfOne ss (c.in-Some-account_at.account ∷ drop (suc a.place) a.book.now)) split (subst (AreOfOne a.entries.now) (drop_got a.book.now a.place c.in-Some-account_at.account c.in-Some-account_at.ensures) c.self.invariant.one) in
    record { one = subst (λ n. AreOfOne c.in-Some.others.now (drop n a.book.now)) next both.1; fits = omega (arith, c.self.invariant.fits, c.in-Some.ensures.cases.1) }

pub returns-clause-steps : goal.returns-clause-steps
returns-clause-steps c =
    let a = c.self.inside in
    let next : suc a.place ≡ a.place + 1 = omega arith in
    sym c.self.view_is ∙ ap (λ ss. joined ss (drop a.place a.book.now)) c.in-Some.ensures.cases.0
    ∙ ap (joined (c.in-Some.entry.now ∷ c.in-Some.others.now)) (drop_got a.book.now a.place c.in-Some-account_at.account c.in-Some-account_at.ensures)
    ∙ ap (λ n. join c.in-Some.entry.now c.in-Some-account_at.account ∷ joined c.in-Some.others.now (drop n a.book.now)) next

pub returns-clause-goes : goal.returns-clause-goes
returns-clause-goes c = record {
  on = λ finite. (tt, tt, omega (arith, ap length (returns-clause-steps c)));
  keeps = tt;
  rests = λ finite. tt;
}
