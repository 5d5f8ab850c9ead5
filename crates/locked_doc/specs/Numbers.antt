-- The numbers of documents.
use Rattle.std.specs.Prelude.{ℕ}

-- a document's number is at most this
abbrev pub greatest_number : ℕ
greatest_number = 65535
