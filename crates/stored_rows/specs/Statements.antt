-- Statements that were run one after another, whatever tables the database has.
use Rattle.std.specs.Prelude.{◌≡◌, ◌⊎◌, ℕ, zero, suc, ◌/◌, pos, List, [], ◌∷◌, ◌++◌, map, take}
use Rattle.std.specs.Prelude.{drop, length, flat_map, Result, Ok, Err, OnOk, IfErr, codes}
use Rattle.sqlite_trees.specs.declared.store.Store.{Ghosts}
use Rattle.sqlite.specs.declared.types.Value.TheVariants.{Int}
use Rattle.sqlite.specs.Order.{Row}
use Rattle.sqlite.specs.Tree.{Trees}
use Rattle.sqlite.specs.Held.{Held, state}
use Rattle.sqlite.specs.State.{HasCleanDisk, Survives, Executes, CommitsBy, Begins, Shown}
use Rattle.sqlite.specs.State.{FailsToQuery}
use Rattle.sqlite.specs.declared.error.Error.{Error}
use Rattle.stored_rows.specs.Tables.{meta_text, entry_text, sixteen_text}

-- a text with its parameters
pub record Statement : Type 0 where
  pub text : List ℕ
  pub params : Row

-- a text that has none
abbrev pub text_alone : List ℕ → Statement
text_alone text = record { text = text; params = [] }

abbrev pub begin_it : Statement
begin_it = record { text = codes "BEGIN"; params = [] }

abbrev pub commit_it : Statement
commit_it = record { text = codes "COMMIT"; params = [] }

abbrev pub insert_row : Row → Statement
insert_row row = record { text = codes "INSERT INTO entry (doc, place, text) VALUES (?1, ?2, ?3)"; params = row }

-- sixteen rows at once
abbrev pub insert_sixteen : List Row → Statement
insert_sixteen rows = record {
  text = sixteen_text;
  params = flat_map (λ row. row) rows;
}

-- so many statements of sixteen rows, then one for each row that is left
abbrev pub inserts_by : ℕ → List Row → List Statement
inserts_by zero rows = map insert_row rows
inserts_by (suc n) rows = insert_sixteen (take 16 rows) ∷ inserts_by n (drop 16 rows)

-- sixteen rows a statement, as long as so many are left
abbrev pub inserts_of : List Row → List Statement
inserts_of rows = inserts_by (length rows / 16) rows

abbrev pub update_epoch : ℕ → Statement
update_epoch epoch =
    record { text = codes "UPDATE meta SET value = ?1 WHERE name = 'epoch'"; params = Int (pos epoch) ∷ [] }

abbrev pub update_format : ℕ → Statement
update_format format =
    record { text = codes "UPDATE meta SET value = ?1 WHERE name = 'format'"; params = Int (pos format) ∷ [] }

abbrev pub roll_it_back : Statement
roll_it_back = record { text = codes "ROLLBACK"; params = [] }

abbrev pub select_meta : Statement
select_meta = record { text = codes "SELECT rowid, name, value FROM meta ORDER BY name DESC"; params = [] }

abbrev pub select_entries : Statement
select_entries = record { text = codes "SELECT doc, place, text FROM entry ORDER BY doc, place"; params = [] }

abbrev pub create_meta_it : Statement
create_meta_it = record { text = meta_text; params = [] }

abbrev pub create_entry_it : Statement
create_entry_it = record { text = entry_text; params = [] }

abbrev pub insert_numbers : Statement
insert_numbers =
    record { text = codes "INSERT INTO meta (name, value) VALUES ('format', 2), ('epoch', 0)"; params = [] }

-- the rows in one transaction
abbrev pub batch_of : List Row → List Statement
batch_of rows = (begin_it ∷ inserts_of rows) ++ commit_it ∷ []

-- both tables with their first rows, in a transaction
abbrev pub filling_of_tables : List Statement
filling_of_tables = begin_it ∷ create_meta_it ∷ create_entry_it ∷ insert_numbers ∷ []

abbrev pub making_of_tables : List Statement
making_of_tables = filling_of_tables ++ commit_it ∷ []

-- ---- what was run

-- the database was given it and nothing else, and gave this answer
abbrev pub RunsTo : {S : Type 0} → Ghosts S → Statement → Held S → Held S → Result ℕ Error → Type 0
RunsTo g it old new answer = Executes it.text it.params (state g old) (state g new) answer

-- the database ran it, and answered Ok
abbrev pub Ran : {S : Type 0} → Ghosts S → Statement → Held S → Held S → Type 0
Ran g it old new = (count : ℕ) × RunsTo g it old new (Ok count)

-- each after the one before it, and nothing between
abbrev pub RanAll : {S : Type 0} → Ghosts S → List Statement → Held S → Held S → Type 0
RanAll g [] old new = old ≡ new
RanAll {S} g (it ∷ more) old new = (mid : Held S) × Ran g it old mid × RanAll g more mid new

-- one of them failed by this error, after those before it ran, and none behind it was tried
abbrev pub StopsBy : {S : Type 0} → Ghosts S → List Statement → Held S → Held S → Error → Type 0
StopsBy g [] old new error = ⊥
StopsBy {S} g (it ∷ more) old new error =
    RunsTo g it old new (Err error)
    ⊎ ((mid : Held S) × Ran g it old mid × StopsBy g more mid new error)

-- it commits this
abbrev pub CommitsFor : {S : Type 0} → Ghosts S → Statement → Held S → Trees → Type 0
CommitsFor g it old db = CommitsBy it.text it.params (state g old) db

-- one of them commits this, after those before it ran
abbrev pub CommitsOneOf : {S : Type 0} → Ghosts S → List Statement → Held S → Trees → Type 0
CommitsOneOf g [] old db = ⊥
CommitsOneOf {S} g (it ∷ more) old db =
    CommitsFor g it old db ⊎ ((mid : Held S) × Ran g it old mid × CommitsOneOf g more mid db)

-- They were run in turn, up to the first that failed. A crash leaves what was there
-- before, or what one of them commits.
pub record RunsThrough {S T : Type 0} (g : Ghosts S) (its : List Statement) (old new : Held S)
    (r : Result T Error) : Type 0 where
  pub crash : Survives (state g old) (state g new) (CommitsOneOf g its old)
  pub ran : HasCleanDisk (state g new) → OnOk r (RanAll g its old new)
  pub err : HasCleanDisk (state g new) → IfErr r (StopsBy g its old new)

-- ---- what was asked

-- the database showed these rows for it
abbrev pub ShowsFor : {S : Type 0} → Ghosts S → Statement → Held S → Held S → List Row → Type 0
ShowsFor g it old new rows = Shown it.text it.params (state g old) (state g new) rows

-- the database began to answer it by these rows
abbrev pub BeginsFor : {S : Type 0} → Ghosts S → Statement → Held S → List Row → Type 0
BeginsFor g it held rows = Begins it.text it.params (state g held) rows

-- the database answered it by this error
abbrev pub FailsFor : {S : Type 0} → Ghosts S → Statement → Held S → Held S → Error → Type 0
FailsFor g it old new error = FailsToQuery it.text it.params (state g old) (state g new) error
