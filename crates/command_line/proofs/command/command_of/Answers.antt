use Rattle.std.proofs.Common.{map, ◌∙◌}
use Rattle.command_line.proofs.Taken.{words_ask}
use Rattle.command_line.proofs.command.command_of.Goals as goal

pub unreachable-requires : goal.unreachable-requires
unreachable-requires c =
    let ask = words_ask (map (λ w. w.now) c.args.words.now) c.in_ok-matches.ensures.faults in
    c.in-None.ensures.none ask.1.name ask.1.rows ask.0 (c.in_ok-matches.ensures.matches ∙ ask.1.command) ask.1.named
