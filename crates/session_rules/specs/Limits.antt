-- The limits of sessions.
use Rattle.std.specs.Prelude.{ℕ}

-- the lines that a session answers
abbrev pub most_lines : ℕ
most_lines = 1000000

-- the variables of a session at one document
abbrev pub most_variables : ℕ
most_variables = 64
