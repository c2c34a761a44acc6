use Rattle.cluster_core.specs.Keeping.{story_of}
use Rattle.cluster_core.proofs.cluster.Cluster.is_safe.Goals as goal

pub returns : goal.returns
returns g c = rw (← c.self.view_is) (c.stories_are_safe.ensures (story_of c.self.inside.history) c.self.invariant.legal)
