-- The limits of servers.
use Rattle.std.specs.Prelude.{ℕ}

-- the documents of a server
abbrev pub most_documents : ℕ
most_documents = 16

-- the bytes of a server's name
abbrev pub longest_server_name : ℕ
longest_server_name = 24
