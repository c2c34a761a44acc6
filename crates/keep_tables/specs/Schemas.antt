-- The tables of a store of an agent's record and of the master's last run.
use Rattle.std.specs.Prelude.{◌≡◌, ◌⊎◌, Bool, true, false, [], ◌∷◌, Some, None, codes, List, ℕ, pos}
use Rattle.sqlite.specs.Collation.TheVariants.{Binary}
use Rattle.sqlite.specs.declared.types.Value.TheVariants.{Null, Int}
use Rattle.sqlite.specs.Table.{Table}
use Rattle.sqlite_value.specs.Keys.{plain}
use Rattle.sqlite_schema.specs.declared.schema.Column.{Column}
use Rattle.sqlite_schema.specs.declared.schema.Index.{Index}
use Rattle.sqlite_schema.specs.declared.schema.Stamps.{Stamps}
use Rattle.sqlite.specs.Schema.{Schema}
use Rattle.sqlite.specs.Kind.{Kind}
use Rattle.sqlite.specs.Kind.TheVariants.{Integer, Text as Words}
use Rattle.sqlite.specs.Term.{Term, lit, col, op2}
use Rattle.sqlite_sql.specs.declared.ops.BinaryOp.TheVariants.{Compare}
use Rattle.sqlite_sql.specs.declared.ops.CompareOp.TheVariants.{Eq}

abbrev pub column_of : List ℕ → Kind → Bool → Column
column_of name kind not_null =
    record {
      name = name;
      kind = kind;
      is_strict = false;
      not_null = not_null;
      default = Null;
      collation = Binary;
    }

-- the column of an id
abbrev pub id_column : Column
id_column = column_of (codes "id") Integer false

-- the id is 1
abbrev pub id_check : List Term
id_check = op2 (Compare Eq Binary) (col 1 0) (lit (Int (pos 1))) ∷ []

abbrev pub no_stamps : Stamps
no_stamps = record { places = []; terms = []; formats = [] }

-- a table of an id, which is 1, and other columns
abbrev pub lone_table : List ℕ → ℕ → List Column → Table
lone_table name tree columns = record {
  name = name;
  tree = tree;
  columns = id_column ∷ columns;
  key = Some 0;
  primary = 0 ∷ [];
  uniques = [];
  orders = [];
  checks = id_check;
  references = [];
  computed = [];
  stamps = no_stamps;
  is_counted = false;
}

abbrev pub record_columns : List Column
record_columns = column_of (codes "body") Words true ∷ []

abbrev pub run_columns : List Column
run_columns = column_of (codes "last") Integer true ∷ []

abbrev pub head_columns : List Column
head_columns =
    column_of (codes "name") Words true ∷ column_of (codes "run") Integer true
    ∷ column_of (codes "session") Integer true
    ∷ column_of (codes "total") Words true ∷ column_of (codes "version") Integer true ∷ []

abbrev pub task_columns : List Column
task_columns =
    column_of (codes "run") Integer true ∷ column_of (codes "n") Integer true
    ∷ column_of (codes "body") Words true ∷ []

abbrev pub total_columns : List Column
total_columns = column_of (codes "name") Words false ∷ column_of (codes "amount") Integer true ∷ []

abbrev pub record_table : Table
record_table = lone_table (codes "agent_record") 0 record_columns

abbrev pub run_table : Table
run_table = lone_table (codes "run_number") 1 run_columns

abbrev pub head_table : Table
head_table = lone_table (codes "agent_head") 2 head_columns

-- the table of tasks, whose key is the launch key
abbrev pub task_table : Table
task_table = record {
  name = codes "agent_task";
  tree = 3;
  columns = task_columns;
  key = None;
  primary = 1 ∷ 2 ∷ [];
  uniques = (1 ∷ 2 ∷ []) ∷ [];
  orders = plain ∷ [];
  checks = [];
  references = [];
  computed = [];
  stamps = no_stamps;
  is_counted = false;
}

-- a unique index of a table's columns
abbrev pub index_of : List ℕ → ℕ → ℕ → List ℕ → Index
index_of name tree table columns =
    record {
      name = name;
      tree = tree;
      table = table;
      columns = columns;
      order = plain;
      is_unique = true;
    }

abbrev pub task_index : Index
task_index = index_of (codes "sqlite_autoindex_agent_task_1") 4 3 (1 ∷ 2 ∷ [])

-- the table of a total's amounts, whose key is the resource's name
abbrev pub total_table : Table
total_table = record {
  name = codes "agent_total";
  tree = 5;
  columns = total_columns;
  key = None;
  primary = 1 ∷ [];
  uniques = (1 ∷ []) ∷ [];
  orders = plain ∷ [];
  checks = [];
  references = [];
  computed = [];
  stamps = no_stamps;
  is_counted = false;
}

abbrev pub total_index : Index
total_index = index_of (codes "sqlite_autoindex_agent_total_1") 6 5 (1 ∷ [])

abbrev pub keeper_schema : Schema
keeper_schema =
    record {
      tables = record_table ∷ run_table ∷ head_table ∷ task_table ∷ total_table ∷ [];
      indexes = task_index ∷ total_index ∷ [];
      views = [];
    }

-- the four tables of a store that has a total in its head
abbrev pub second_schema : Schema
second_schema =
    record {
      tables = record_table ∷ run_table ∷ head_table ∷ task_table ∷ [];
      indexes = task_index ∷ [];
      views = [];
    }

-- the two tables of a store that has a record as one text
abbrev pub first_schema : Schema
first_schema = record { tables = record_table ∷ run_table ∷ []; indexes = []; views = [] }

abbrev pub no_schema : Schema
no_schema = record { tables = []; indexes = []; views = [] }

-- the tables that the schema lists are those of a known layout:
-- none yet, the two or the four of an older store, or all five
abbrev pub HasKnownTables : Schema → Type 0
HasKnownTables s =
    (s ≡ no_schema) ⊎ ((s ≡ first_schema) ⊎ ((s ≡ second_schema) ⊎ (s ≡ keeper_schema)))
