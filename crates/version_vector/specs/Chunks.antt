-- Counters in chunks that fronts share.
use Rattle.std.specs.Prelude.{ℕ, ◌&&◌, ◌==◌, nat_le, Bool, true, List, [], ◌∷◌, length}

-- the counters of a chunk that is full
abbrev pub chunk_len : ℕ
chunk_len = 16

abbrev pub is_full : List ℕ → Bool
is_full chunk = length chunk == chunk_len

-- all chunks are full but the last, which has no more
abbrev pub are_full : List (List ℕ) → Bool
are_full [] = true
are_full (chunk ∷ []) = nat_le (length chunk) chunk_len
are_full (chunk ∷ next ∷ rest) = is_full chunk && are_full (next ∷ rest)
