-- The limits of operations, of logs and of what is held.
use Rattle.std.specs.Prelude.{ℕ}

-- the keys of an operation's path
abbrev pub longest_path : ℕ
longest_path = 30

-- the bytes of a text that is a key
abbrev pub longest_key : ℕ
longest_key = 128

-- the operations of a log
abbrev pub most_operations : ℕ
most_operations = 100000

-- the replicas of a log
abbrev pub most_replicas : ℕ
most_replicas = 256

-- the operations that are held
abbrev pub most_held : ℕ
most_held = 256
