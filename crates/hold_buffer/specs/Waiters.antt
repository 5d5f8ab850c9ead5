-- The index of the missing ids, in rows by a hash.
use Rattle.std.specs.Prelude.{ℕ, ◌+◌, ◌*◌, ◌%◌, List, [], slice_index_or}
use Rattle.std.specs.List.{fold}
use Rattle.doc_api.specs.Words.{Id}
use Rattle.hold_buffer.specs.declared.waiters.Waiters.{Waiters}

-- the keys of a row
abbrev pub row_at : List (List ℕ) → ℕ → List ℕ
row_at rows n = slice_index_or rows n []

-- one more byte of a name
abbrev pub hash_step : ℕ → ℕ → ℕ
hash_step hash byte = (hash * 31 + byte) % 4294967296

-- the row of an id
unfoldable pub row_of : Id → ℕ
row_of i = fold hash_step (i.counter % 4294967296) i.replica % 4096

-- the keys that are noted at an id, and some that are noted at others
abbrev pub waiters_of : Waiters → Id → List ℕ
waiters_of waiters i = row_at waiters.rows.items (row_of i)
