-- The documents that a server starts from.
use Rattle.std.specs.Prelude.{ℕ, List, [], Some, map, get_or}
use Rattle.share_ledger.specs.Begun.{Origin}
use Rattle.doc_rules.specs.Document.{Document, new_document}
use Rattle.stored_log.specs.Docs.{Doc, log_of}

-- the documents of these names, each with the entries that are stored of it, which are seat 0's and
-- copied
abbrev pub restored : List ℕ → List Doc → ℕ → List (List ℕ) → List Document
restored replica docs seats names = map (λ n. new_document replica (log_of n docs) seats) names

-- what the document of each number begins with: the entries that it has in the stored log
-- under its name, and this replica
abbrev pub origin_at : List ℕ → List Doc → List (List ℕ) → ℕ → Origin
origin_at replica docs names number =
    record { log = log_of (get_or names number []) docs; replica = Some replica }
