-- What the inlet and the outlet in memory read and write.
use Rattle.std.proofs.Common.{refl, sym, ap, ◌∙◌, append_assoc, append-nil}
use Rattle.std.specs.Prelude.{◌≡◌, ℕ, List, [], ◌++◌}
use Rattle.http_door.specs.declared.memory.Source.{Source}
use Rattle.http_door.specs.declared.memory.Sink.{Sink}

-- the source's bytes begin with those that were read
abbrev pub SourceReads : Source → List ℕ → Source → Type 0
SourceReads old bytes new = old.bytes.items ≡ bytes ++ new.bytes.items

abbrev pub has_ended : Source → Type 0
has_ended s = s.bytes.items ≡ []

abbrev pub source_faults : Source → ℕ
source_faults s = s.faults

-- the sink's bytes end with those that were written
abbrev pub SinkWrites : Sink → List ℕ → Sink → Type 0
SinkWrites old bytes new = new.bytes.items ≡ old.bytes.items ++ bytes

abbrev pub sink_faults : Sink → ℕ
sink_faults s = s.faults

pub source_reads_nothing : (s : Source) → SourceReads s [] s
source_reads_nothing s = refl

pub source_reads_more : (a b c : Source) (x y : List ℕ) → SourceReads a x b → SourceReads b y c
    → SourceReads a (x ++ y) c
source_reads_more a b c x y p q =
    p ∙ ap (λ (t : List ℕ). x ++ t) q ∙ sym (append_assoc x y c.bytes.items)

pub sink_writes_nothing : (s : Sink) → SinkWrites s [] s
sink_writes_nothing s = sym (append-nil s.bytes.items)

pub sink_writes_more : (a b c : Sink) (x y : List ℕ) → SinkWrites a x b → SinkWrites b y c
    → SinkWrites a (x ++ y) c
sink_writes_more a b c x y p q = q ∙ ap (λ (t : List ℕ). t ++ y) p ∙ append_assoc a.bytes.items x y
