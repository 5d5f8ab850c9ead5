-- What the texts of the statements mean.
use Rattle.std.proofs.Common.{◌≡◌, List, ℕ, pos, negsuc, true, false, None, [], ◌∷◌, length, Result, Ok, Err, codes, refl, ap, ◌∙◌}
use Rattle.sqlite.specs.Compile.{table_defined_by}
use Rattle.sqlite.specs.Schema.{Schema}
use Rattle.sqlite.specs.Query.{Query, inner, end}
use Rattle.sqlite.specs.Term.{Term, lit, col, op2}
use Rattle.sqlite.specs.Collation.TheVariants.{Binary}
use Rattle.sqlite_value.specs.declared.keys.Key.{Key}
use Rattle.sqlite_sql.specs.declared.ops.BinaryOp.TheVariants.{Compare}
use Rattle.sqlite_sql.specs.declared.ops.CompareOp.TheVariants.{Eq}
use Rattle.sqlite.specs.declared.types.Value.TheVariants.{Null, Int, Text}
use Rattle.sqlite.specs.Source.TheVariants.{Values}
use Rattle.sqlite.specs.Command.TheVariants.{Insert, Select, CreateTable, Update, Begin, Commit, Rollback}
use Rattle.sqlite_resolve.specs.declared.compiled.Compiled.{Compiled}
use Rattle.sqlite_resolve.specs.declared.error.CompileError.{CompileError}
use Rattle.sqlite_tied.specs.Compute.{everything}
use Rattle.sqlite.specs.Listing.{understood, reads_listing}
use Rattle.sqlite.proofs.Callers.{IsPlain, command_of, statement_of}
use Rattle.stored_rows.specs.Tables.{meta_text, entry_text, sixteen_text, meta, entry, no_schema, meta_schema, copy_schema, copy_indexes}

pub meta_is : table_defined_by meta_text ≡ Ok meta
unfolding understood everything
meta_is = refl

pub entry_is : table_defined_by entry_text ≡ Ok entry
unfolding understood everything
entry_is = refl

pub create_meta : command_of (understood no_schema meta_text) ≡ CreateTable
unfolding understood everything
create_meta = refl

pub create_entry : command_of (understood meta_schema entry_text) ≡ CreateTable
unfolding understood everything
create_entry = refl

abbrev pub insert_text : List ℕ
insert_text = codes "INSERT INTO entry (doc, place, text) VALUES (?1, ?2, ?3)"

abbrev pub terms : List Term
terms = lit Null ∷ col 0 0 ∷ col 0 1 ∷ col 0 2 ∷ []

pub insert_is : command_of (understood copy_schema insert_text) ≡ Insert 1 (Values terms 4)
unfolding understood everything
insert_is = refl

-- sixteen entries at once
abbrev pub sixteen_terms : List Term
sixteen_terms =
    lit Null ∷ col 0 0 ∷ col 0 1 ∷ col 0 2 ∷ lit Null ∷ col 0 3 ∷ col 0 4 ∷ col 0 5 ∷ lit Null ∷ col 0 6 ∷ col 0 7 ∷ col 0 8 ∷ lit Null ∷ col 0 9 ∷ col 0 10 ∷ col 0 11 ∷
    lit Null ∷ col 0 12 ∷ col 0 13 ∷ col 0 14 ∷ lit Null ∷ col 0 15 ∷ col 0 16 ∷ col 0 17 ∷ lit Null ∷ col 0 18 ∷ col 0 19 ∷ col 0 20 ∷ lit Null ∷ col 0 21 ∷ col 0 22 ∷ col 0 23 ∷
    lit Null ∷ col 0 24 ∷ col 0 25 ∷ col 0 26 ∷ lit Null ∷ col 0 27 ∷ col 0 28 ∷ col 0 29 ∷ lit Null ∷ col 0 30 ∷ col 0 31 ∷ col 0 32 ∷ lit Null ∷ col 0 33 ∷ col 0 34 ∷ col 0 35 ∷
    lit Null ∷ col 0 36 ∷ col 0 37 ∷ col 0 38 ∷ lit Null ∷ col 0 39 ∷ col 0 40 ∷ col 0 41 ∷ lit Null ∷ col 0 42 ∷ col 0 43 ∷ col 0 44 ∷ lit Null ∷ col 0 45 ∷ col 0 46 ∷ col 0 47 ∷ []

pub sixteen_is : (command_of (understood copy_schema sixteen_text) ≡ Insert 1 (Values sixteen_terms 4)) × IsPlain (understood copy_schema sixteen_text)
unfolding understood everything
sixteen_is = (refl, (refl, refl))

-- the rows of one table, all of them
abbrev pub whole_table : ℕ → List Term → List (Term × Key) → Query
whole_table tree project order = record {
  from = inner tree end;
  filter = [];
  group = None;
  project = project;
  distinct = false;
  collations = [];
  order = order;
  limit = lit (Int (negsuc 0));
  offset = lit (Int (pos 0));
}

abbrev pub ascending : Key
ascending = record { collation = Binary; descending = false }

abbrev pub read_entries_text : List ℕ
read_entries_text = codes "SELECT doc, place, text FROM entry ORDER BY doc, place"

abbrev pub read_entries_query : Query
read_entries_query = whole_table 2 (col 1 1 ∷ col 1 2 ∷ col 1 3 ∷ []) ((col 1 1, ascending) ∷ (col 1 2, ascending) ∷ [])

pub read_entries_is : (command_of (understood copy_schema read_entries_text) ≡ Select (record { lets = []; body = read_entries_query }) (codes "doc" ∷ codes "place" ∷ codes "text" ∷ []))
    × IsPlain (understood copy_schema read_entries_text) × (reads_listing copy_schema read_entries_text ≡ false)
unfolding understood everything
read_entries_is = (refl, (refl, refl), refl)

abbrev pub set_query : List ℕ → Query
set_query name = record (whole_table 0 [] []) { filter = op2 (Compare Eq Binary) (col 1 1) (lit (Text name)) ∷ []; project = col 1 0 ∷ col 1 0 ∷ col 1 1 ∷ col 0 0 ∷ [] }

abbrev pub epoch_text : List ℕ
epoch_text = codes "UPDATE meta SET value = ?1 WHERE name = 'epoch'"

pub epoch_is : command_of (understood copy_schema epoch_text) ≡ Update 0 (record { lets = []; body = set_query (codes "epoch") })
unfolding understood everything
epoch_is = refl

abbrev pub format_text : List ℕ
format_text = codes "UPDATE meta SET value = ?1 WHERE name = 'format'"

pub format_is : command_of (understood copy_schema format_text) ≡ Update 0 (record { lets = []; body = set_query (codes "format") })
unfolding understood everything
format_is = refl

pub insert_plain : IsPlain (understood copy_schema insert_text)
unfolding understood everything
insert_plain = (refl, refl)

pub epoch_plain : IsPlain (understood copy_schema epoch_text)
unfolding understood everything
epoch_plain = (refl, refl)

pub format_plain : IsPlain (understood copy_schema format_text)
unfolding understood everything
format_plain = (refl, refl)

abbrev pub begin_text : List ℕ
begin_text = codes "BEGIN"

pub begin_is : (command_of (understood copy_schema begin_text) ≡ Begin) × IsPlain (understood copy_schema begin_text)
unfolding understood everything
begin_is = (refl, (refl, refl))

abbrev pub commit_text : List ℕ
commit_text = codes "COMMIT"

pub commit_is : (command_of (understood copy_schema commit_text) ≡ Commit) × IsPlain (understood copy_schema commit_text)
unfolding understood everything
commit_is = (refl, (refl, refl))

pub create_plain : IsPlain (understood no_schema meta_text) × IsPlain (understood meta_schema entry_text)
unfolding understood everything
create_plain = ((refl, refl), (refl, refl))

pub create_statements : (statement_of meta_text (understood no_schema meta_text) ≡ meta_text) × (statement_of entry_text (understood meta_schema entry_text) ≡ entry_text)
unfolding understood everything
create_statements = (refl, refl)

-- the transaction begins before the tables are there
pub begin_bare : (command_of (understood no_schema begin_text) ≡ Begin) × IsPlain (understood no_schema begin_text)
unfolding understood everything
begin_bare = (refl, (refl, refl))

abbrev pub first_rows_text : List ℕ
first_rows_text = codes "INSERT INTO meta (name, value) VALUES ('format', 2), ('epoch', 0)"

abbrev pub first_terms : List Term
first_terms = lit Null ∷ lit (Text (codes "format")) ∷ lit (Int (pos 2)) ∷ lit Null ∷ lit (Text (codes "epoch")) ∷ lit (Int (pos 0)) ∷ []

pub first_rows_is : (command_of (understood copy_schema first_rows_text) ≡ Insert 0 (Values first_terms 3)) × IsPlain (understood copy_schema first_rows_text)
unfolding understood everything
first_rows_is = (refl, (refl, refl))

abbrev pub read_meta_text : List ℕ
read_meta_text = codes "SELECT rowid, name, value FROM meta ORDER BY name DESC"

abbrev pub read_meta_query : Query
read_meta_query = whole_table 0 (col 1 0 ∷ col 1 1 ∷ col 1 2 ∷ []) ((col 1 1, record { collation = Binary; descending = true }) ∷ [])

pub read_meta_is : (command_of (understood copy_schema read_meta_text) ≡ Select (record { lets = []; body = read_meta_query }) (codes "rowid" ∷ codes "name" ∷ codes "value" ∷ []))
    × IsPlain (understood copy_schema read_meta_text) × (reads_listing copy_schema read_meta_text ≡ false)
unfolding understood everything
read_meta_is = (refl, (refl, refl), refl)

abbrev pub rollback_text : List ℕ
rollback_text = codes "ROLLBACK"

-- whatever tables there are
pub rollback_is : (schema : Schema) → (command_of (understood schema rollback_text) ≡ Rollback) × IsPlain (understood schema rollback_text)
unfolding understood everything
rollback_is schema = (refl, (refl, refl))

-- the statement is all of the text, and has no parameter
abbrev pub IsWholeText : ℕ → Result Compiled CompileError → Type 0
IsWholeText size (Ok c) = (c.tail ≡ size) × (c.names ≡ []) × (c.formats ≡ [])
IsWholeText size (Err e) = ⊥

pub rollback_whole : (schema : Schema) → IsWholeText (length rollback_text) (understood schema rollback_text)
unfolding understood everything
rollback_whole schema = (refl, refl, refl)

pub indexes_are : copy_indexes ≡ copy_schema.indexes
unfolding everything
indexes_are = refl

-- a schema is told by its parts
pub from_parts : (s whole : Schema) → s.tables ≡ whole.tables → s.indexes ≡ whole.indexes → s.views ≡ whole.views → s ≡ whole
from_parts s whole tables indexes views =
    ap (λ t. record s { tables = t }) tables ∙ ap (λ i. record s { tables = whole.tables; indexes = i }) indexes
    ∙ ap (λ v. let w : Schema = record { tables = whole.tables; indexes = whole.indexes; views = v } in w) views
