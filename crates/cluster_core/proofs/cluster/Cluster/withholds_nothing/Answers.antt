use Rattle.std.proofs.Common.{◌≤◌, ℕ, subst, sym}
use Rattle.cluster_core.specs.Stories.{state_of}
use Rattle.cluster_core.proofs.Posted.{never_withheld}
use Rattle.cluster_core.proofs.cluster.Cluster.withholds_nothing.Goals as goal

pub returns : goal.returns
returns g c gives step all withheld =
    never_withheld (state_of c.args.self.now.story) gives step (λ n first last. all n first (subst (λ (k : ℕ). n ≤ k) (sym c.has_all_sent.ensures) last)) withheld
