use Rattle.std.proofs.Common.{◌≡◌, ◌<◌, ◌-◌, IfSome, sym, subst, ap, ◌∙◌, ◌++◌, List, ℕ, take}
use Rattle.frame_record.specs.Records.{Splits, State, first, partial}
use Rattle.frame_record.specs.Firsts.{item_of, text_of}
use Rattle.frame_record.proofs.Splitting.{reads_on}
use Rattle.frame_record.proofs.reader.Reader.pull.Goals as goal

pub returns-in-Ok-clause-reads : goal.returns-in-Ok-clause-reads
returns-in-Ok-clause-reads c = λ text before h.
    let taken = take c.in-Ok.pulled.taken c.args.piece.now in
    let item = item_of c.in-Ok.pulled.item in
    let part = c.pull.new.self in
    let T : List ℕ → Type 0 = λ rest. Splits (rest ++ taken) item (text_of part) in
    let splits = subst T (ap (λ (s : State). s.rest) c.self.view_is) c.in-Ok.ensures.splits in
    reads_on text taken before item c.args.self.now (record { rest = text_of part; fault = c.in-Ok.pulled.fault }) (sym (ap (λ (s : State). s.fault) c.self.view_is) ∙ c.in_default.is) splits c.in-Ok.ensures.stops h

pub returns-in-Ok-clause-last : goal.returns-in-Ok-clause-last
returns-in-Ok-clause-last c = λ none.
    let T : List ℕ → Type 0 = λ rest. IfSome c.in-Ok.pulled.fault (λ f. (0 < c.in-Ok.pulled.taken) × (first (rest ++ take (c.in-Ok.pulled.taken - 1) c.args.piece.now) ≡ partial)) in
    subst T (ap (λ (s : State). s.rest) c.self.view_is) c.in-Ok.ensures.last
