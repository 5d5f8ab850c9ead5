-- The limits of names and ids.
use Rattle.std.specs.Prelude.{ℕ}

-- the bytes of a name
abbrev pub longest_name : ℕ
longest_name = 32

-- the number of an id, its counter, goes from 1 to this
abbrev pub greatest_counter : ℕ
greatest_counter = 100000
