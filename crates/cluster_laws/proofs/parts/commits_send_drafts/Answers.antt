use Rattle.cluster_laws.proofs.Moves.{silent_sends, commit_sends}
use Rattle.cluster_laws.proofs.parts.commits_send_drafts.Goals as goal

pub returns : goal.returns
returns c = record { silent = silent_sends; commits = commit_sends }
