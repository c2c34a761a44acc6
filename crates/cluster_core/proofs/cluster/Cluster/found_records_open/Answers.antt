use Rattle.cluster_core.specs.Keeping.{story_of}
use Rattle.cluster_core.proofs.cluster.Cluster.found_records_open.Goals as goal

pub returns : goal.returns
returns g c =
    let law = c.stopped_stories_open_again.ensures in
    let s = story_of c.self.inside.history in
    let legal = c.self.invariant.legal in
    rw (← c.self.view_is) (record {
      good = λ later found above f. law.good s later found legal above f;
      records = λ agents found of own f. law.records s agents found legal of own f;
      live = λ later agents found of above f. law.live s later agents found legal of above f;
    })
