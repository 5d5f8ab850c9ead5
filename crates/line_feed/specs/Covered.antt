-- What a sink waits for before it lets bytes out.
use Rattle.std.specs.Prelude.{ℕ}

-- what was covered, of each document and for each count, stays so
abbrev pub StaysCovered : (ℕ → ℕ → Type 0) → (ℕ → ℕ → Type 0) → Type 0
StaysCovered old new = (document count : ℕ) → old document count → new document count
