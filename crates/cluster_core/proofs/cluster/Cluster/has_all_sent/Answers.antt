use Rattle.std.proofs.Common.{◌∙◌, sym}
use Rattle.cluster_core.specs.Keeping.{story_of}
use Rattle.cluster_core.specs.Stories.{state_of}
use Rattle.cluster_core.proofs.Posted.{all_posts}
use Rattle.cluster_core.proofs.cluster.Cluster.has_all_sent.Goals as goal

pub returns : goal.returns
returns g c = rw (← c.self.view_is) (c.self.invariant.counted ∙ sym (all_posts (state_of (story_of c.self.inside.history)) c.self.inside.parts.served.items c.self.invariant.stands.as_others.as_items))
