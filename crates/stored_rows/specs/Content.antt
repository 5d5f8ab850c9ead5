-- What the two tables of a stored log hold.
use Rattle.std.specs.Prelude.{◌≢◌, ℕ, ℤ, ◌+◌, pos, true, List, [], ◌∷◌, ◌++◌, map, codes}
use Rattle.std.specs.List.Sorted.{IsPermutation}
use Rattle.sqlite.specs.declared.types.Value.TheVariants.{Int, Text}
use Rattle.sqlite.specs.Order.{Row}
use Rattle.std.specs.declared.cmp.Ordering.{Ordering}
use Rattle.sqlite_value.specs.declared.keys.Collation.TheVariants.{Binary}
use Rattle.sqlite_value.specs.Order.{column}
use Rattle.sqlite_sql.specs.Query.{key_cmp}
use Rattle.sqlite.specs.Tree.{Trees}

-- the two numbers of `meta`, and the rows of `entry` without their rowids
pub record Content : Type 0 where
  pub format : ℕ
  pub epoch : ℕ
  pub rows : List Row

abbrev pub with_format : ℕ → Content → Content
with_format format what = record what { format = format }

abbrev pub with_epoch : ℕ → Content → Content
with_epoch epoch what = record what { epoch = epoch }

abbrev pub with_rows : List Row → Content → Content
with_rows more what = record what { rows = what.rows ++ more }

-- what the tables hold at first
abbrev pub first_content : Content
first_content = record { format = 2; epoch = 0; rows = [] }

-- ---- rows

abbrev pub entry_row : List ℕ → ℕ → List ℕ → Row
entry_row doc place text = Text doc ∷ Int (pos place) ∷ Text text ∷ []

-- the rows of the texts, the first of them at this place
abbrev pub rows_from : List ℕ → ℕ → List (List ℕ) → List Row
rows_from doc place [] = []
rows_from doc place (text ∷ texts) = entry_row doc place text ∷ rows_from doc (place + 1) texts

-- a row of `meta` with its rowid
abbrev pub meta_row : ℤ → List ℕ → ℕ → Row
meta_row id name value = Int id ∷ Text name ∷ Int (pos value) ∷ []

-- ---- the orders of the rows that are read

-- by name, from the last
abbrev pub meta_cmp : Row → Row → Ordering
meta_cmp = key_cmp 1 (record { collation = Binary; descending = true } ∷ [])

-- ---- the tables

abbrev pub meta_tree : ℕ
meta_tree = 0

abbrev pub entry_tree : ℕ
entry_tree = 2

-- the columns of a row of `meta`, with its rowid
abbrev pub meta_columns : Row → Row
meta_columns r = column r 0 ∷ column r 1 ∷ column r 2 ∷ []

-- the columns of a row of `entry`, without its rowid
abbrev pub entry_columns : Row → Row
entry_columns r = column r 1 ∷ column r 2 ∷ column r 3 ∷ []

-- Two rows of these names and values, in any order. Their rowids differ, so an
-- UPDATE of one leaves the other.
pub record HasPair (name other : List ℕ) (value at_other : ℕ) (rows : List Row) : Type 0 where
  pub id : ℤ
  pub other_id : ℤ
  pub apart : id ≢ other_id
  pub rows_are : IsPermutation (meta_row id name value ∷ meta_row other_id other at_other ∷ []) (map meta_columns rows)

-- The tables hold this and nothing else, in any order.
pub record Holds (what : Content) (trees : Trees) : Type 0 where
  pub meta : HasPair (codes "format") (codes "epoch") what.format what.epoch (trees meta_tree)
  pub entry : IsPermutation what.rows (map entry_columns (trees entry_tree))
