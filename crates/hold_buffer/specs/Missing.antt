-- The ids that one held operation waits for: of those that it waited for at first, one that was
-- logged since has the counter beyond those of operations.
use Rattle.std.specs.Prelude.{◌≡◌, ℕ, Bool, List, length, filter, nat_lt, ◌+◌}
use Rattle.doc_api.specs.Words.{Id, name_cmp}
use Rattle.doc_rules.specs.Sorted.{IsRising}

-- the id was not logged since
abbrev pub is_left : Id → Bool
is_left i = nat_lt i.counter 4294967296

abbrev pub left_of : List Id → List Id
left_of ids = filter is_left ids

-- the id as that of an operation that was logged
abbrev pub arrived : Id → Id
arrived i = record i { counter = i.counter + 4294967296 }

-- the ids are of different replicas, by rising name, and so many are left
pub record HasLeft (count : ℕ) (ids : List Id) : Type 0 where
  pub rising : IsRising name_cmp (λ i. i.replica) ids
  pub counted : count ≡ length (left_of ids)
