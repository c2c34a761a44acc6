use Rattle.std.proofs.Common.{◌≡◌, ℕ, false, List, [], ◌∷◌, zero-le, sym, subst, bytes_eq}
use Rattle.std.specs.List.{AllByRecursion}
use Rattle.quantity.specs.declared.rows.Row.{Row}
use Rattle.quantity.proofs.Amounts.{covers_is_at_least}
use Rattle.messages.specs.declared.task.Booked.{Booked}
use Rattle.messages.specs.declared.mail.AgentMail.{AgentMail}
use Rattle.messages.specs.declared.mail.AgentMail.TheVariants.{Report, Applied, Update}
use Rattle.cluster_model.specs.Sides.{Run, Side}
use Rattle.cluster_model.specs.Fits.{AreApart, AreBookable, KeysBefore, MailFitsAt, ReportsNothing}
use Rattle.cluster_model.proofs.fits.mails_without_tasks_fit.Goals as goal

none_apart : (agent : List ℕ) (ss : List Side) → AllByRecursion (λ s. bytes_eq s.name agent ≡ false → AreApart [] s) ss
none_apart agent [] = tt
none_apart agent (s ∷ ss) = (λ other. tt, none_apart agent ss)

bookable : (agent : List ℕ) (total : List Row) (ss : List Side) → AreBookable agent [] total ss
bookable agent total ss = record { rising = tt; apart = none_apart agent ss; fits = (covers_is_at_least total []).1 (λ name. zero-le) }

fits : (run : Run) (agent : List ℕ) (mail : AgentMail) (ss : List Side) → ReportsNothing mail → MailFitsAt run agent mail ss
fits run agent (Report session number tasks total) ss none = subst (λ (ts : List Booked). AreBookable agent ts total ss × KeysBefore run.next_key ts) (sym none) (bookable agent total ss, tt)
fits run agent (Applied session count) ss none = tt
fits run agent (Update session key k state ended) ss none = tt

pub returns : goal.returns
returns c = fits
