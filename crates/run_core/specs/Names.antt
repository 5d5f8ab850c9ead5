-- The names of a server and of its documents.
use Rattle.std.specs.Prelude.{Bool, true, ◌&&◌, not, ℕ, List, [], ◌∷◌, ◌++◌, length, codes, nat_le}
use Rattle.std.specs.List.{list_all, list_any}
use Rattle.std.specs.Str.{bytes_eq}
use Rattle.lamport_id.specs.Name.{is_name}
use Rattle.run_core.specs.Limits.{longest_server_name, most_documents}

-- the name of the server, and those of its documents
pub record Wanted : Type 0 where
  pub name : List ℕ
  pub documents : List (List ℕ)

abbrev pub wanted_by : List ℕ → List (List ℕ) → Wanted
wanted_by name documents = record { name = name; documents = documents }

-- no text is there twice
abbrev pub all_differ : List (List ℕ) → Bool
all_differ [] = true
all_differ (t ∷ ts) = not (list_any (bytes_eq t) ts) && all_differ ts

-- at most 16 documents, of names that differ, and a name that leaves room for the number of a start
abbrev pub is_good : List ℕ → List (List ℕ) → Bool
is_good name documents =
    (is_name name && nat_le (length name) longest_server_name)
    && ((nat_le (length documents) most_documents && list_all is_name documents) && all_differ documents)

-- the name of the replica that a server is at its first start
abbrev pub first_replica : List ℕ → List ℕ
first_replica name = name ++ codes "-1"
