use Rattle.std.proofs.Common.{◌≡◌, ◌+◌, ◌++◌, List, ℕ, Some, None, Vec, Global, subst, ap, ◌∙◌, length, take, arith, length-drop}
use Rattle.std.proofs.lemmas.List.{append-nil, map_push, take_rest}
use Rattle.frame_record.specs.Records.{Reads}
use Rattle.frame_record.specs.Firsts.{bodies, item_of}
use Rattle.frame_record.proofs.Splitting.{pulled_more, pulled_whole}
use Rattle.frame_record.proofs.reader.Reader.pull_all.Goals as goal

pub loop-records-preserved : goal.loop-records-preserved
loop-records-preserved c =
    let piece = c.args.piece.now in
    let used = c.loop-records.used in
    let taken = c.in_ok-taken.field-0.taken in
    let records = c.loop-records.records.items in
    let item = c.in-Some.item in
    let is_item : c.in_ok-taken.field-0.item ≡ Some item = cc in
    let pushed : bodies c.push.new.self.items ≡ bodies records ++ item_of c.in_ok-taken.field-0.item = rw (c.in_ok-push.ensures.items, is_item) (map_push (λ (v : Vec ℕ Global). v.items) records item) in
    record {
      inside = omega (arith, c.in_ok-taken.ensures.taken, length-drop used piece, ap length (take_rest piece used));
      reads = λ text before h.
          let pulled = rw (take_rest piece used) at (c.in_ok-taken.ensures.reads (text ++ take used piece) (before ++ bodies records) (c.loop-records.invariant.reads text before h)) in
          rw pushed (pulled_more text piece before (bodies records) (item_of c.in_ok-taken.field-0.item) c.pull.new.self used taken pulled);
    }

pub returns-in_default : goal.returns-in_default
returns-in_default c = λ text before h.
    let piece = c.args.piece.now in
    let used = c.loop-records.used in
    let taken = c.in_ok-taken.field-0.taken in
    let records = c.loop-records.records.items in
    let is_none : c.in_ok-taken.field-0.item ≡ None = cc in
    let pulled = rw (take_rest piece used) at (c.in_ok-taken.ensures.reads (text ++ take used piece) (before ++ bodies records) (c.loop-records.invariant.reads text before h)) in
    let more = pulled_more text piece before (bodies records) (item_of c.in_ok-taken.field-0.item) c.pull.new.self used taken pulled in
    let no_more : bodies records ++ item_of c.in_ok-taken.field-0.item ≡ bodies records = rw is_none (append-nil (bodies records)) in
    let T : List (List ℕ) → Type 0 = λ rs. Reads (text ++ take (used + taken) piece) (before ++ rs) c.pull.new.self in
    let whole = rw is_none at c.in_ok-taken.ensures.whole in
    pulled_whole text piece (before ++ bodies records) c.pull.new.self (used + taken) (subst T no_more more)
    (λ e. omega (arith, whole (c.in_ok-taken.ensures.fault ∙ e), ap length (take_rest piece used), length-drop used piece, c.loop-records.invariant.inside))
