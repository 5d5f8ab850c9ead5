-- How many numbers there are after a write.
use Rattle.std.proofs.Common.{◌≤◌, ◌+◌, List, [], ◌∷◌, length, Bool, true, false, if◌then◌else◌, arith}
use Rattle.std.specs.Ordering.{is_lt}
use Rattle.doc_api.specs.Words.{Id, id_cmp}
use Rattle.crdt_rules.specs.Same.{id_eq}
use Rattle.presence_set.specs.ById.{put_at_id}

module _ {X : Type 0} where
  -- one id more at most
  pub length-put : (entries : List (Id × X)) (id : Id) (x : X) → length (put_at_id entries id x) ≤ length entries + 1
  length-put [] id x = omega arith
  length-put (e ∷ entries) id x = go (is_lt (id_cmp e.0 id)) (id_eq e.0 id) (length-put entries id x)
    where
      go : (less same : Bool) → length (put_at_id entries id x) ≤ length entries + 1
          → length (if less then e ∷ put_at_id entries id x else if same then (id, x) ∷ entries else (id, x) ∷ e ∷ entries) ≤ length (e ∷ entries) + 1
      go true same ih = omega (arith, ih)
      go false true ih = omega arith
      go false false ih = omega arith
