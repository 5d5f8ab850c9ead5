-- What a log knows of a front.
use Rattle.std.specs.Prelude.{ℕ, List, Bool, ◌&&◌}
use Rattle.std.specs.List.{list_any}
use Rattle.version_vector.specs.Front.{id_of, is_le}
use Rattle.op_core.specs.Op.{Op}
use Rattle.crdt_rules.specs.Same.{id_eq}

-- the pair of the front is a logged operation, whose own front is at most this one
abbrev pub is_pair_known : List (List ℕ × ℕ) → List Op → List ℕ × ℕ → Bool
is_pair_known front log e = list_any (λ o. id_eq o.id (id_of e) && is_le o.front front) log
