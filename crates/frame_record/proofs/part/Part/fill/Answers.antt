use Rattle.std.proofs.Common.{◌≡◌, ◌+◌, ◌<◌, [], length, drop, take, ap, arith, length-append, length-drop, length-take}
use Rattle.std.proofs.lemmas.List.{take_rest}
use Rattle.frame_record.specs.Firsts.{text_of}
use Rattle.frame_record.proofs.Lines.{first_of_part, item_ends}
use Rattle.frame_record.proofs.part.Part.fill.Goals as goal

pub returns-clause-item : goal.returns-clause-item
returns-clause-item c =
    let piece = c.args.piece.now in
    let start = c.args.start in
    let more = c.in_ok-more.more in
    let old = c.args.self.now.body.items in
    let new = c.take_data.new.kept.items in
    let behind = drop start piece in
    let items = rw (take_rest piece start) at c.in_ok-more.ensures.items in
    let within = rw (take_rest piece start) at c.in_ok-more.ensures.taken in
    let all = rw (take_rest piece start) at c.in_ok-more.ensures.all in
    let size : length new ≡ length old + more = omega (arith, ap length items, length-append old (take more behind), length-take more behind, within) in
    item_ends c.finish-item.result (length old) (length new) c.args.size start more (length piece) (text_of c.finish-item.new.self ≡ []) c.finish-item.ensures.whole c.finish-item.ensures.empty
    (λ (short : length new < c.args.size). omega (arith, all short, length-drop start piece, c.requires.start)) size

pub returns-clause-stops : goal.returns-clause-stops
returns-clause-stops c =
    let part = c.finish-item.new.self in
    first_of_part part.line.items part.size part.body.items c.finish-item.ensures.part
