use Rattle.cluster_laws.proofs.Posts.{call_post, down_post, up_post, no_post}
use Rattle.cluster_laws.proofs.laws.items_are_posts.Goals as goal

pub returns : goal.returns
returns c = record { calls = call_post; to_agents = down_post; to_master = up_post; none = no_post }
