-- What the texts mean.
use Rattle.std.proofs.Common.{◌≡◌, ℕ, pos, negsuc, List, [], ◌∷◌, codes, false, None, refl}
use Rattle.sqlite.specs.declared.types.Value.TheVariants.{Null, Int, Text}
use Rattle.sqlite.specs.Collation.TheVariants.{Binary}
use Rattle.sqlite.specs.Term.{Term, lit, col, op2}
use Rattle.sqlite.specs.Query.{Query, inner, end}
use Rattle.sqlite.specs.Source.TheVariants.{Values}
use Rattle.sqlite.specs.Command.TheVariants.{Insert, InsertOr, Delete, Select}
use Rattle.sqlite_sql.specs.declared.ops.BinaryOp.TheVariants.{Compare}
use Rattle.sqlite_sql.specs.declared.ops.CompareOp.TheVariants.{Eq}
use Rattle.sqlite_schema.specs.declared.program.Program.{Program}
use Rattle.sqlite_schema.specs.declared.command.Conflict.TheVariants.{Replace}
use Rattle.sqlite_tied.specs.Compute.{everything}
use Rattle.sqlite.specs.Listing.{understood, reads_listing}
use Rattle.sqlite.proofs.Callers.{IsPlain, command_of}
use Rattle.sqlite_value.specs.declared.keys.Key.{Key}
use Rattle.sqlite_value.specs.Keys.{ascending}
use Rattle.keep_tables.specs.Tables.{keeper_schema}

abbrev pub whole : Query → Program
whole q = record { lets = []; body = q }

-- the rows of a tree that pass a filter
abbrev pub query_of : ℕ → List Term → List Term → Query
query_of tree filter project = record {
  from = inner tree end;
  filter = filter;
  group = None;
  project = project;
  distinct = false;
  collations = [];
  order = [];
  limit = lit (Int (negsuc 0));
  offset = lit (Int (pos 0));
}

abbrev pub terms : List Term
terms = lit (Int (pos 1)) ∷ lit Null ∷ col 0 0 ∷ []

abbrev pub give_text : List ℕ
give_text = codes "INSERT OR REPLACE INTO run_number (id, last) VALUES (1, ?1)"

pub give_is : command_of (understood keeper_schema give_text) ≡ InsertOr 1 Replace (Values terms 3) []
unfolding understood everything
give_is = refl

pub give_plain : IsPlain (understood keeper_schema give_text)
unfolding understood everything
give_plain = (refl, refl)

abbrev pub clear_records_text : List ℕ
clear_records_text = codes "DELETE FROM agent_record"

pub clear_records_is : command_of (understood keeper_schema clear_records_text) ≡ Delete 0 (whole (query_of 0 [] (col 1 0 ∷ [])))
unfolding understood everything
clear_records_is = refl

pub clear_records_plain : IsPlain (understood keeper_schema clear_records_text)
unfolding understood everything
clear_records_plain = (refl, refl)

abbrev pub clear_heads_text : List ℕ
clear_heads_text = codes "DELETE FROM agent_head"

pub clear_heads_is : command_of (understood keeper_schema clear_heads_text) ≡ Delete 2 (whole (query_of 2 [] (col 1 0 ∷ [])))
unfolding understood everything
clear_heads_is = refl

pub clear_heads_plain : IsPlain (understood keeper_schema clear_heads_text)
unfolding understood everything
clear_heads_plain = (refl, refl)

abbrev pub clear_tasks_text : List ℕ
clear_tasks_text = codes "DELETE FROM agent_task"

pub clear_tasks_is : command_of (understood keeper_schema clear_tasks_text) ≡ Delete 3 (whole (query_of 3 [] (col 1 0 ∷ [])))
unfolding understood everything
clear_tasks_is = refl

pub clear_tasks_plain : IsPlain (understood keeper_schema clear_tasks_text)
unfolding understood everything
clear_tasks_plain = (refl, refl)

-- the rowid is the first parameter
abbrev pub is_place : Term
is_place = op2 (Compare Eq Binary) (col 1 0) (col 0 0)

abbrev pub cut_text : List ℕ
cut_text = codes "DELETE FROM agent_task WHERE rowid = ?1"

pub cut_is : command_of (understood keeper_schema cut_text) ≡ Delete 3 (whole (query_of 3 (is_place ∷ []) (col 1 0 ∷ [])))
unfolding understood everything
cut_is = refl

pub cut_plain : IsPlain (understood keeper_schema cut_text)
unfolding understood everything
cut_plain = (refl, refl)

abbrev pub task_terms : List Term
task_terms = col 0 0 ∷ col 0 1 ∷ col 0 2 ∷ col 0 3 ∷ []

abbrev pub put_text : List ℕ
put_text = codes "INSERT INTO agent_task (rowid, run, n, body) VALUES (?1, ?2, ?3, ?4)"

pub put_is : command_of (understood keeper_schema put_text) ≡ Insert 3 (Values task_terms 4)
unfolding understood everything
put_is = refl

pub put_plain : IsPlain (understood keeper_schema put_text)
unfolding understood everything
put_plain = (refl, refl)

abbrev pub head_terms : List Term
head_terms = lit (Int (pos 1)) ∷ lit Null ∷ col 0 0 ∷ col 0 1 ∷ col 0 2 ∷ lit (Text (codes "{}")) ∷ lit (Int (pos 2)) ∷ []

abbrev pub head_text : List ℕ
head_text = codes "INSERT INTO agent_head (id, name, run, session, total, version) VALUES (1, ?1, ?2, ?3, '{}', 2)"

pub head_is : command_of (understood keeper_schema head_text) ≡ Insert 2 (Values head_terms 7)
unfolding understood everything
head_is = refl

pub head_plain : IsPlain (understood keeper_schema head_text)
unfolding understood everything
head_plain = (refl, refl)

abbrev pub bodies_text : List ℕ
bodies_text = codes "SELECT body FROM agent_record"

pub bodies_is : (command_of (understood keeper_schema bodies_text) ≡ Select (whole (query_of 0 [] (col 1 2 ∷ []))) (codes "body" ∷ [])) × (reads_listing keeper_schema bodies_text ≡ false)
unfolding understood everything
bodies_is = (refl, refl)

pub bodies_plain : IsPlain (understood keeper_schema bodies_text)
unfolding understood everything
bodies_plain = (refl, refl)

abbrev pub lasts_text : List ℕ
lasts_text = codes "SELECT last FROM run_number"

pub lasts_is : (command_of (understood keeper_schema lasts_text) ≡ Select (whole (query_of 1 [] (col 1 2 ∷ []))) (codes "last" ∷ [])) × (reads_listing keeper_schema lasts_text ≡ false)
unfolding understood everything
lasts_is = (refl, refl)

pub lasts_plain : IsPlain (understood keeper_schema lasts_text)
unfolding understood everything
lasts_plain = (refl, refl)

abbrev pub record_ids_text : List ℕ
record_ids_text = codes "SELECT id FROM agent_record"

pub record_ids_is : (command_of (understood keeper_schema record_ids_text) ≡ Select (whole (query_of 0 [] (col 1 0 ∷ []))) (codes "id" ∷ [])) × (reads_listing keeper_schema record_ids_text ≡ false)
unfolding understood everything
record_ids_is = (refl, refl)

pub record_ids_plain : IsPlain (understood keeper_schema record_ids_text)
unfolding understood everything
record_ids_plain = (refl, refl)

abbrev pub run_ids_text : List ℕ
run_ids_text = codes "SELECT id FROM run_number"

pub run_ids_is : (command_of (understood keeper_schema run_ids_text) ≡ Select (whole (query_of 1 [] (col 1 0 ∷ []))) (codes "id" ∷ [])) × (reads_listing keeper_schema run_ids_text ≡ false)
unfolding understood everything
run_ids_is = (refl, refl)

pub run_ids_plain : IsPlain (understood keeper_schema run_ids_text)
unfolding understood everything
run_ids_plain = (refl, refl)

abbrev pub head_ids_text : List ℕ
head_ids_text = codes "SELECT id FROM agent_head"

pub head_ids_is : (command_of (understood keeper_schema head_ids_text) ≡ Select (whole (query_of 2 [] (col 1 0 ∷ []))) (codes "id" ∷ [])) × (reads_listing keeper_schema head_ids_text ≡ false)
unfolding understood everything
head_ids_is = (refl, refl)

pub head_ids_plain : IsPlain (understood keeper_schema head_ids_text)
unfolding understood everything
head_ids_plain = (refl, refl)

abbrev pub places_text : List ℕ
places_text = codes "SELECT rowid FROM agent_task"

pub places_is : (command_of (understood keeper_schema places_text) ≡ Select (whole (query_of 3 [] (col 1 0 ∷ []))) (codes "rowid" ∷ [])) × (reads_listing keeper_schema places_text ≡ false)
unfolding understood everything
places_is = (refl, refl)

pub places_plain : IsPlain (understood keeper_schema places_text)
unfolding understood everything
places_plain = (refl, refl)

abbrev pub head_places : List Term
head_places = col 1 2 ∷ col 1 3 ∷ col 1 4 ∷ col 1 5 ∷ col 1 6 ∷ []

abbrev pub head_names : List (List ℕ)
head_names = codes "name" ∷ codes "run" ∷ codes "session" ∷ codes "total" ∷ codes "version" ∷ []

abbrev pub heads_text : List ℕ
heads_text = codes "SELECT name, run, session, total, version FROM agent_head"

pub heads_is : (command_of (understood keeper_schema heads_text) ≡ Select (whole (query_of 2 [] head_places)) head_names) × (reads_listing keeper_schema heads_text ≡ false)
unfolding understood everything
heads_is = (refl, refl)

pub heads_plain : IsPlain (understood keeper_schema heads_text)
unfolding understood everything
heads_plain = (refl, refl)

abbrev pub task_places : List Term
task_places = col 1 0 ∷ col 1 1 ∷ col 1 2 ∷ col 1 3 ∷ []

abbrev pub task_names : List (List ℕ)
task_names = codes "rowid" ∷ codes "run" ∷ codes "n" ∷ codes "body" ∷ []

-- run, and then number
abbrev pub by_key : List (Term × Key)
by_key = (col 1 1, ascending Binary) ∷ (col 1 2, ascending Binary) ∷ []

abbrev pub tasks_text : List ℕ
tasks_text = codes "SELECT rowid, run, n, body FROM agent_task ORDER BY run, n"

pub tasks_is : (command_of (understood keeper_schema tasks_text) ≡ Select (whole (record (query_of 3 [] task_places) { order = by_key })) task_names) × (reads_listing keeper_schema tasks_text ≡ false)
unfolding understood everything
tasks_is = (refl, refl)

pub tasks_plain : IsPlain (understood keeper_schema tasks_text)
unfolding understood everything
tasks_plain = (refl, refl)

abbrev pub clear_amounts_text : List ℕ
clear_amounts_text = codes "DELETE FROM agent_total"

pub clear_amounts_is : command_of (understood keeper_schema clear_amounts_text) ≡ Delete 4 (whole (query_of 5 [] (col 1 0 ∷ [])))
unfolding understood everything
clear_amounts_is = refl

pub clear_amounts_plain : IsPlain (understood keeper_schema clear_amounts_text)
unfolding understood everything
clear_amounts_plain = (refl, refl)

abbrev pub amount_terms : List Term
amount_terms = col 0 0 ∷ col 0 1 ∷ col 0 2 ∷ []

abbrev pub put_amount_text : List ℕ
put_amount_text = codes "INSERT INTO agent_total (rowid, name, amount) VALUES (?1, ?2, ?3)"

pub put_amount_is : command_of (understood keeper_schema put_amount_text) ≡ Insert 4 (Values amount_terms 3)
unfolding understood everything
put_amount_is = refl

pub put_amount_plain : IsPlain (understood keeper_schema put_amount_text)
unfolding understood everything
put_amount_plain = (refl, refl)

abbrev pub amount_places_text : List ℕ
amount_places_text = codes "SELECT rowid FROM agent_total"

pub amount_places_is : (command_of (understood keeper_schema amount_places_text) ≡ Select (whole (query_of 5 [] (col 1 0 ∷ []))) (codes "rowid" ∷ [])) × (reads_listing keeper_schema amount_places_text ≡ false)
unfolding understood everything
amount_places_is = (refl, refl)

pub amount_places_plain : IsPlain (understood keeper_schema amount_places_text)
unfolding understood everything
amount_places_plain = (refl, refl)

abbrev pub amount_columns : List Term
amount_columns = col 1 1 ∷ col 1 2 ∷ []

abbrev pub amounts_text : List ℕ
amounts_text = codes "SELECT name, amount FROM agent_total"

pub amounts_is : (command_of (understood keeper_schema amounts_text) ≡ Select (whole (query_of 5 [] amount_columns)) (codes "name" ∷ codes "amount" ∷ [])) × (reads_listing keeper_schema amounts_text ≡ false)
unfolding understood everything
amounts_is = (refl, refl)

pub amounts_plain : IsPlain (understood keeper_schema amounts_text)
unfolding understood everything
amounts_plain = (refl, refl)
