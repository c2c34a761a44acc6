use Rattle.std.proofs.Common.{sym, ap, ◌∙◌, refl}
use Rattle.frame_record.specs.Records.{State}
use Rattle.frame_record.proofs.Splitting.{reads_at_fault}
use Rattle.frame_record.proofs.reader.Reader.feed.Goals as goal

pub returns-in-Some-clause-reads : goal.returns-in-Some-clause-reads
returns-in-Some-clause-reads c = λ text before h. reads_at_fault text _ before _ c.args.self.now c.in-Some.f (sym (ap (λ (s : State). s.fault) c.self.view_is) ∙ c.in-Some.is) (rw c.new.ensures.items refl) h
