-- Two mails of two commands, of which the first is known to be applied.
use Rattle.std.proofs.Common.{◌≡◌, ℕ, suc, zero, ◌≤◌, List, [], ◌∷◌, length, drop, slice_get, Some, sym, ap, ◌∙◌, subst, arith}
use Rattle.messages.specs.declared.mail.Command.{Command}
use Rattle.messages.specs.declared.mail.MasterMail.{MasterMail}
use Rattle.messages.specs.declared.mail.MasterMail.TheVariants.{Hello, Issued}
use Rattle.cluster_model.specs.Channels.{Channel}
use Rattle.cluster_safe.specs.Issued.{AreAllIssued, HasIssued}

abbrev two_mails : ℕ → ℕ → ℕ → Command → Command → List MasterMail
two_mails run dead session first second = Hello run dead ∷ Issued session 1 first ∷ Issued session 2 second ∷ []

numbered : (run dead session : ℕ) (first second : Command) (place number : ℕ) (w : Command) → slice_get (two_mails run dead session first second) place ≡ Some (Issued session number w) → (n : ℕ) × (number ≡ suc n) × (slice_get (first ∷ second ∷ []) n ≡ Some w)
numbered run dead session first second zero number w e = absurd cc
numbered run dead session first second (suc zero) number w e = (let n : number ≡ 1 = cc in let is : first ≡ w = cc in (0, n, ap Some is))
numbered run dead session first second (suc (suc zero)) number w e = (let n : number ≡ 2 = cc in let is : second ≡ w = cc in (1, n, ap Some is))
numbered run dead session first second (suc (suc (suc place))) number w e = absurd (none place e)
  where
    none : (i : ℕ) → slice_get {X = MasterMail} [] i ≡ Some (Issued session number w) → ⊥
    none i h = cc

sent : (run dead session : ℕ) (first second : Command) (n : ℕ) (w : Command) → slice_get (first ∷ second ∷ []) n ≡ Some w → (place : ℕ) × (slice_get (two_mails run dead session first second) place ≡ Some (Issued session (suc n) w))
sent run dead session first second zero w e = (let is : first ≡ w = cc in (1, ap (λ v. Some (Issued session 1 v)) is))
sent run dead session first second (suc zero) w e = (let is : second ≡ w = cc in (2, ap (λ v. Some (Issued session 2 v)) is))
sent run dead session first second (suc (suc n)) w e = absurd (none n e)
  where
    none : (i : ℕ) → slice_get {X = Command} [] i ≡ Some w → ⊥
    none i h = cc

pub has_two : (c : Channel) (run dead : ℕ) (first second : Command) → c.to_agent ≡ two_mails run dead c.side.session first second → c.side.known ≡ 1 → c.side.waiting ≡ second ∷ [] → c.agent.applied ≤ 2 → HasIssued c
has_two c run dead first second mails known waiting applied = record {
  all = first ∷ second ∷ [];
  issued = subst (λ ms. AreAllIssued ms c.side.session (first ∷ second ∷ [])) (sym mails) (record { numbered = numbered run dead c.side.session first second; sent = sent run dead c.side.session first second });
  queue = record { known = omega arith; waiting = waiting ∙ ap (λ n. drop n (first ∷ second ∷ [])) (sym known) };
  next = omega (arith, ap length waiting);
  applied = λ up same. applied;
}
