-- Digests of chains, by which two logs are compared. A chain is a replica's operations between two counters.
use Rattle.std.specs.Prelude.{ℕ, List, [], ◌∷◌, ◌++◌, ◌&&◌, Bool, bytes_eq, nat_lt, nat_le, map, filter}
use Rattle.std.specs.Prelude.{unwrap_or}
use Rattle.sha2.specs.Sha256.{sha256}
use Rattle.hex.specs.Hex.{encode_lower}
use Rattle.serde_json.specs.Data.{Data, number, unsigned, string}
use Rattle.serde_json.specs.Written.{compact_text}
use Rattle.doc_api.specs.Words.{Id, Op}
use Rattle.op_core.specs.Wire.{list_data, wire}
use Rattle.crdt_rules.specs.Dependencies.{entry_of}

-- the id is of the replica, and its counter is above the first one and at most the second
abbrev pub is_between : List ℕ → ℕ → ℕ → Id → Bool
is_between name above last i = bytes_eq i.replica name && (nat_lt above i.counter && nat_le i.counter last)

-- the operations of the replica with such counters, in log order
abbrev pub chain_between : List ℕ → ℕ → ℕ → List Op → List Op
chain_between name above last log = filter (λ o. is_between name above last o.id) log

-- an operation's compact JSON, and a newline
abbrev pub chain_line : Op → List ℕ
chain_line op = compact_text (wire op) ++ 10 ∷ []

-- the lines of operations, one after another
abbrev pub chain_lines : List Op → List ℕ
chain_lines [] = []
chain_lines (op ∷ ops) = chain_line op ++ chain_lines ops

-- the SHA-256 of the lines of a chain, in hex digits
abbrev pub chain_digest : List Op → List ℕ
chain_digest chain = encode_lower (sha256 (chain_lines chain))

-- the counter of the replica in a front, or 0
abbrev pub counter_or_zero : List (List ℕ × ℕ) → List ℕ → ℕ
counter_or_zero front name = unwrap_or (entry_of front name) 0

-- a pair of a front, and the digest of its replica's chain up to it, above what another front has
abbrev pub chain_data : List (List ℕ × ℕ) → List Op → List ℕ × ℕ → Data
chain_data after log e =
    list_data (string e.0 ∷ number (unsigned e.1)
    ∷ string (chain_digest (chain_between e.0 (counter_or_zero after e.0) e.1 log)) ∷ [])

-- that for each pair of a front, as text
abbrev pub chains_text : List (List ℕ × ℕ) → List (List ℕ × ℕ) → List Op → List ℕ
chains_text after front log = compact_text (list_data (map (chain_data after log) front))
