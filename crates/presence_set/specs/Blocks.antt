-- Values by ids, in blocks: the pairs of a block, and how many it has room for.
use Rattle.std.specs.Prelude.{◌≡◌, ◌<◌, ℕ, suc, List, [], ◌∷◌, ◌++◌, length, take, drop, Bool, true}
use Rattle.std.specs.Prelude.{false, not, Option, option_map, unwrap_or}
use Rattle.std.specs.List.{flat_map, prefix_len}
use Rattle.std.specs.Ordering.{is_lt}
use Rattle.doc_api.specs.Words.{Id, id_cmp}
use Rattle.presence_set.specs.ById.{IsAscending}
use Rattle.presence_set.specs.declared.lack.Lack.{Lack}
use Rattle.presence_set.specs.declared.lack.Lack.TheVariants.{InFirst, InRest, Anywhere}
use Rattle.presence_set.specs.declared.later.LaterBlocks.{LaterBlocks}

module _ {X : Type 0} where
  -- the pairs of all blocks, one block after another
  abbrev pub pairs_in : List (List (Id × X) × ℕ) → List (Id × X)
  pairs_in blocks = flat_map (λ b. b.0) blocks

  -- there is a pair
  abbrev pub has_pair : List (Id × X) → Bool
  has_pair [] = false
  has_pair (e ∷ entries) = true

  -- no block is empty
  abbrev pub AreNonEmpty : List (List (Id × X) × ℕ) → Type 0
  AreNonEmpty [] = Unit {0}
  AreNonEmpty (b ∷ blocks) = (has_pair b.0 ≡ true) × AreNonEmpty blocks

  -- a block has room for one more
  abbrev pub HasSpareRoom : List (Id × X) × ℕ → Type 0
  HasSpareRoom b = length b.0 < b.1

  abbrev pub AllHaveRoom : List (List (Id × X) × ℕ) → Type 0
  AllHaveRoom [] = Unit {0}
  AllHaveRoom (b ∷ blocks) = HasSpareRoom b × AllHaveRoom blocks

  -- the first id isn't greater
  abbrev pub starts_by : Id → List (Id × X) → Bool
  starts_by id [] = true
  starts_by id (e ∷ entries) = not (is_lt (id_cmp id e.0))

  -- how many blocks, at the front, start with an id that isn't greater
  abbrev pub blocks_by : Id → List (List (Id × X) × ℕ) → ℕ
  blocks_by id blocks = prefix_len (λ b. starts_by id b.0) blocks

  -- the blocks that don't lack room have it
  abbrev pub HaveRoomBut : Lack → List (Id × X) × ℕ → List (List (Id × X) × ℕ) → Type 0
  HaveRoomBut InFirst first rest = AllHaveRoom rest
  HaveRoomBut (InRest at) first rest =
      HasSpareRoom first × (at < length rest) × AllHaveRoom (take at rest)
      × AllHaveRoom (drop (suc at) rest)
  HaveRoomBut Anywhere first rest = Unit {0}

  -- each block has room where there is room for one more, and otherwise those that don't lack it
  abbrev pub HaveRoomFor : Bool → Lack → List (Id × X) × ℕ → List (List (Id × X) × ℕ) → Type 0
  HaveRoomFor true lack first rest = HasSpareRoom first × AllHaveRoom rest
  HaveRoomFor false lack first rest = HaveRoomBut lack first rest

  -- the ids rise in the first block and from there on, no other block is empty, and each block has
  -- room except where it may lack it
  pub record IsInBlocks (first : List (Id × X) × ℕ) (rest : List (List (Id × X) × ℕ)) (has_room : Bool) (lack : Lack) : Type 0 where
    pub rising : IsAscending (first.0 ++ pairs_in rest)
    pub filled : AreNonEmpty rest
    pub room : HaveRoomFor has_room lack first rest

  -- the blocks behind the first: none until they are made
  abbrev pub blocks_in : Option (LaterBlocks (List (Id × X) × ℕ)) → List (List (Id × X) × ℕ)
  blocks_in later = unwrap_or (option_map (λ l. l.blocks.items) later) []

  -- which block may lack room: until they are made any
  abbrev pub lack_in : Option (LaterBlocks (List (Id × X) × ℕ)) → Lack
  lack_in later = unwrap_or (option_map (λ l. l.lack) later) Anywhere
