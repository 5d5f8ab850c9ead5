-- What a server writes when it starts.
use Rattle.std.specs.Prelude.{ℕ, List, ◌++◌, codes, Option}
use Rattle.std.specs.Io.KnownBytes.{Appends}
use Rattle.std.specs.Net.Text.{socket_text}
use Rattle.std.specs.declared.net.socket_addr.SocketAddr.{SocketAddr}

-- ["listening","ADDRESS"]
abbrev pub listening_line : SocketAddr → List ℕ
listening_line address = codes "[\"listening\",\"" ++ (socket_text address ++ codes "\"]\n")

-- it was written of some address that the server listens there
pub record WritesAddress (out_before out_after : Option (List ℕ)) : Type 0 where
  pub address : SocketAddr
  pub written : Appends out_before out_after (listening_line address)

-- what an address should be
abbrev pub hint : List ℕ
hint = codes "; HOST:PORT is wanted, as 127.0.0.1:7001 or [::1]:7001"
