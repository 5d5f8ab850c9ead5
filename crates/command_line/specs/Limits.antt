-- The limits of a command line.
use Rattle.std.specs.Prelude.{ℕ}

-- the sessions of a server
abbrev pub most_sessions : ℕ
most_sessions = 256

-- by how many operations of a document the file may be behind
abbrev pub most_backlog : ℕ
most_backlog = 100000

-- the most seconds of patience, or of a drain
abbrev pub most_seconds : ℕ
most_seconds = 3600
