use Rattle.std.proofs.Common.{rules, arith, length, option_map, ap}
use Rattle.std.proofs.lemmas.List.Edits.{map_over_more}
use Rattle.master_state.specs.Starts.{cut_to}
use Rattle.master_state.proofs.registry.starts.SearchHints.cut.Goals as goal

pub loop-i-preserved : goal.loop-i-preserved
loop-i-preserved c =
    rw c.cut_one.ensures (map_over_more (option_map (cut_to c.args.place)) c.args.self.now c.loop-i.self-inside.items.items c.loop-i.i c.index_mut.result.now (omega (arith, c.len-i-end.ensures, ap length c.self.view_is)) c.loop-i.invariant (search rules))
