-- What is written once a cluster isn't served any more.
use Rattle.std.specs.Prelude.{◌≡◌, ℕ, List, Option}
use Rattle.std.specs.Io.KnownBytes.{Appends}
use Rattle.cluster_core.specs.Recording.{Recorded, IsSound}
use Rattle.replay_core.specs.Tables.{table}

-- the text is the table at the end of a cluster's history,
-- each entry of which is a legal step, and the cluster is safe
abbrev pub IsEndTable : List ℕ → Type 0
IsEndTable text = (c : Recorded) × IsSound c × (text ≡ table c.story)

-- such a table was written
abbrev pub AppendsTable : Option (List ℕ) → Option (List ℕ) → Type 0
AppendsTable old new = (text : List ℕ) × IsEndTable text × Appends old new text
