use Rattle.std.proofs.Common.{sym, ◌∙◌}
use Rattle.http_head.proofs.Cuts.{seen_nothing}
use Rattle.test_input.proofs.of_http_head.cut_at.Goals as goal

pub look-requires : goal.look-requires
look-requires c = seen_nothing _ _ c.new-scan.ensures.seen (c.new-scan.ensures.place ∙ sym c.new-scan.ensures.start)
