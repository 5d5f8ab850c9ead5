-- The two tables of the stored log, as their CREATE statements make them.
use Rattle.std.specs.Prelude.{◌≡◌, true, false, [], ◌∷◌, ◌++◌, Option, None, Some, codes, replicate}
use Rattle.std.specs.Prelude.{flat_map, List, ℕ}
use Rattle.std.specs.List.{find}
use Rattle.sqlite_schema.specs.Names.{same_name, view_named}
use Rattle.sqlite.specs.Collation.TheVariants.{Binary}
use Rattle.sqlite.specs.declared.types.Value.TheVariants.{Null}
use Rattle.sqlite.specs.Table.{Table}
use Rattle.sqlite.specs.Schema.{Schema}
use Rattle.sqlite.specs.Kind.{Kind}
use Rattle.sqlite_schema.specs.declared.schema.Column.{Column}
use Rattle.sqlite_schema.specs.declared.schema.Index.{Index}
use Rattle.sqlite.specs.Change.{created}
use Rattle.sqlite.specs.Kind.TheVariants.{Integer, Text}
use Rattle.sqlite_value.specs.Keys.{plain}

abbrev pub meta_text : List ℕ
meta_text = codes "CREATE TABLE meta (name TEXT NOT NULL PRIMARY KEY, value INTEGER NOT NULL) STRICT"

abbrev pub entry_text : List ℕ
entry_text =
    codes "CREATE TABLE entry (doc TEXT NOT NULL, place INTEGER NOT NULL, text TEXT NOT NULL, PRIMARY KEY (doc, place)) STRICT"

-- the places of a row's three values in a statement: a question mark, of code 63, for each
abbrev pub three_values : List ℕ
three_values = codes "(" ++ 63 ∷ codes ", " ++ 63 ∷ codes ", " ++ 63 ∷ codes ")"

-- a statement that inserts sixteen entries
abbrev pub sixteen_text : List ℕ
sixteen_text = codes "INSERT INTO entry (doc, place, text) VALUES " ++ three_values
    ++ flat_map (λ more. codes ", " ++ more) (replicate 15 three_values)

abbrev pub meta : Table
meta = record {
  name = codes "meta";
  tree = 0;
  columns =
      (record {
        name = codes "name";
        kind = Text;
        is_strict = true;
        not_null = true;
        default = Null;
        collation = Binary;
      })
      ∷ (record {
        name = codes "value";
        kind = Integer;
        is_strict = true;
        not_null = true;
        default = Null;
        collation = Binary;
      }) ∷ [];
  key = None;
  primary = 1 ∷ [];
  uniques = (1 ∷ []) ∷ [];
  orders = plain ∷ [];
  checks = [];
  references = [];
  computed = [];
  stamps = record { places = []; terms = []; formats = [] };
  is_counted = false;
}

abbrev pub entry : Table
entry = record {
  name = codes "entry";
  tree = 0;
  columns =
      (record {
        name = codes "doc";
        kind = Text;
        is_strict = true;
        not_null = true;
        default = Null;
        collation = Binary;
      })
      ∷ (record {
        name = codes "place";
        kind = Integer;
        is_strict = true;
        not_null = true;
        default = Null;
        collation = Binary;
      })
      ∷ (record {
        name = codes "text";
        kind = Text;
        is_strict = true;
        not_null = true;
        default = Null;
        collation = Binary;
      }) ∷ [];
  key = None;
  primary = 1 ∷ 2 ∷ [];
  uniques = (1 ∷ 2 ∷ []) ∷ [];
  orders = plain ∷ [];
  checks = [];
  references = [];
  computed = [];
  stamps = record { places = []; terms = []; formats = [] };
  is_counted = false;
}

abbrev pub no_schema : Schema
no_schema = record { tables = []; indexes = []; views = [] }

abbrev pub meta_schema : Schema
meta_schema = created no_schema meta

-- what the two statements make of an empty database
abbrev pub copy_schema : Schema
copy_schema = created meta_schema entry

-- ---- the same, part by part

abbrev pub strict_column : List ℕ → Kind → Column
strict_column name kind =
    record { name = name; kind = kind; is_strict = true; not_null = true; default = Null; collation = Binary }

abbrev pub strict_table : List ℕ → ℕ → List Column → List ℕ → Table
strict_table name tree columns primary = record {
  name = name;
  tree = tree;
  columns = columns;
  key = None;
  primary = primary;
  uniques = primary ∷ [];
  orders = plain ∷ [];
  checks = [];
  references = [];
  computed = [];
  stamps = record { places = []; terms = []; formats = [] };
  is_counted = false;
}

pub record HasKey (primary : List ℕ) (table : Table) : Type 0 where
  pub key : table.key ≡ None
  pub primary_is : table.primary ≡ primary
  pub uniques : table.uniques ≡ primary ∷ []
  pub orders : table.orders ≡ plain ∷ []

pub record HasNoMore (table : Table) : Type 0 where
  pub checks : table.checks ≡ []
  pub references : table.references ≡ []
  pub computed : table.computed ≡ []
  pub stamps : table.stamps ≡ record { places = []; terms = []; formats = [] }
  pub is_counted : table.is_counted ≡ false

abbrev pub automatic_index : List ℕ → ℕ → ℕ → List ℕ → Index
automatic_index name tree table columns =
    record { name = name; tree = tree; table = table; columns = columns; order = plain; is_unique = true }

abbrev pub copy_indexes : List Index
copy_indexes =
    automatic_index (codes "sqlite_autoindex_meta_1") 1 0 (1 ∷ [])
    ∷ automatic_index (codes "sqlite_autoindex_entry_1") 3 2 (1 ∷ 2 ∷ []) ∷ []

-- ---- the two tables beside further ones

-- the first table that the database finds by this name, in whatever letters
abbrev pub table_called : List ℕ → Schema → Option Table
table_called name s = find (λ t. same_name t.name name) s.tables

-- No view has the name of one of the two.
pub record HasNoView (s : Schema) : Type 0 where
  pub meta_view : view_named s (codes "meta") ≡ None
  pub entry_view : view_named s (codes "entry") ≡ None

-- Nothing has the name of one of the two.
pub record HasNeither (s : Schema) : Type 0 where
  pub no_view : HasNoView s
  pub no_meta : table_called (codes "meta") s ≡ None
  pub no_entry : table_called (codes "entry") s ≡ None

-- it is made so, wherever its rows stand
abbrev pub IsMadeAs : Table → Option Table → Type 0
IsMadeAs made None = ⊥
IsMadeAs made (Some t) = t ≡ record made { tree = t.tree }

-- Both are there as their statements make them.
pub record HasBoth (s : Schema) : Type 0 where
  pub no_view : HasNoView s
  pub meta_is : IsMadeAs meta (table_called (codes "meta") s)
  pub entry_is : IsMadeAs entry (table_called (codes "entry") s)
