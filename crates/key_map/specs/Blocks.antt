-- The entries of a map in blocks, each in the order of keys.
use Rattle.std.specs.Prelude.{ℕ, zero, suc, ◌<◌, List, [], ◌∷◌, length, Bool, true, if◌then◌else◌}
use Rattle.std.specs.List.{flat_map, prefix_len}
use Rattle.std.specs.Ordering.{is_lt}
use Rattle.op_core.specs.declared.cursor.Key.{Key}
use Rattle.key_map.specs.KeyOrder.{key_cmp, IsInKeyOrder}

-- what is noted of a block is noted of a second one behind it
abbrev pub repeated : List Bool → ℕ → List Bool
repeated [] n = []
repeated (g ∷ gone) zero = g ∷ g ∷ gone
repeated (g ∷ gone) (suc n) = g ∷ repeated gone n

module _ {V : Type 0} where
  -- the entries of all blocks, one block after another
  abbrev pub joined : List (List (Key × V)) → List (Key × V)
  joined blocks = flat_map (λ block. block) blocks

  -- no block is empty
  abbrev pub AreFilled : List (List (Key × V)) → Type 0
  AreFilled [] = Unit {0}
  AreFilled (block ∷ blocks) = (0 < length block) × AreFilled blocks

  -- the keys rise in each block, and from block to block
  pub record AreBlocks (blocks : List (List (Key × V))) : Type 0 where
    pub filled : AreFilled blocks
    pub rising : IsInKeyOrder (joined blocks)

  -- the blocks, with nothing in place of those that are gone
  abbrev pub but_gone : List Bool → List (List (Key × V)) → List (List (Key × V))
  but_gone [] blocks = blocks
  but_gone (g ∷ gone) [] = []
  but_gone (g ∷ gone) (block ∷ blocks) = (if g then [] else block) ∷ but_gone gone blocks

  -- a block ends with a lesser key
  abbrev pub ends_before : Key → List (Key × V) → Bool
  ends_before key [] = true
  ends_before key (e ∷ []) = is_lt (key_cmp e.0 key)
  ends_before key (e ∷ f ∷ entries) = ends_before key (f ∷ entries)

  -- how many blocks, at the front, end with a lesser key
  abbrev pub block_rank : Key → List (List (Key × V)) → ℕ
  block_rank key blocks = prefix_len (ends_before key) blocks
