-- The limits of requests.
use Rattle.std.specs.Prelude.{ℕ}

-- the bytes of the name of a variable
abbrev pub longest_variable : ℕ
longest_variable = 128

-- the operations that one request asks for
abbrev pub greatest_limit : ℕ
greatest_limit = 64
