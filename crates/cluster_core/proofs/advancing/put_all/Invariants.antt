use Rattle.std.specs.Prelude.{◌≡◌, IfSome, drop, fold, map, take}
use Rattle.cluster_core.specs.Putting.{Puts, direction_of}
use Rattle.cluster_core.proofs.advancing.put_all.Given as goal

abbrev pub invariant-loop-item : goal.invariant-loop-item
invariant-loop-item g l =
    Puts l.agents l.items l.before l.item-index (g.P.Post.count (g.P.Post.known l.post)) (g.P.Post.room l.post) (g.P.Post.gives (g.P.Post.known l.initial.post)) (g.P.Post.gives (g.P.Post.known l.post)) (g.P.Post.direction_at (g.P.Post.known l.initial.post)) (g.P.Post.direction_at (g.P.Post.known l.post)) ×
    (g.P.Post.known l.post ≡ fold g.P.Post.with_put (g.P.Post.known l.initial.post) (map (direction_of l.agents) (take l.item-index (drop l.before l.items)))) ×
    IfSome l.last (λ p. p.1 ≡ direction_of l.agents p.0.now)
