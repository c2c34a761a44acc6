-- Ids as JSON.
use Rattle.std.specs.Prelude.{ℕ, List, codes}
use Rattle.serde_json.specs.Data.{Data, string, object, no_members, member}
use Rattle.names_core.specs.Ids.{Numbered, id_text}

-- an object of one member
abbrev pub only : List ℕ → Data → Data
only name d = object (member name d no_members)

abbrev pub id_data : List ℕ → Data
id_data text = only (codes "value") (string text)

abbrev pub framework_data : Numbered → Data
framework_data id = id_data (id_text 70 id)

abbrev pub offer_id_data : Numbered → Data
offer_id_data id = id_data (id_text 79 id)
