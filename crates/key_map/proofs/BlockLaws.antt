-- Which block a key belongs to, and what comes of an insertion there.
use Rattle.std.proofs.Common.{◌≡◌, ℕ, zero, suc, ◌<◌, ◌≤◌, ◌+◌, ◌-◌, List, [], ◌∷◌, ◌++◌, append_assoc, length, length-append, get_or, set, take, drop, Contains, Bool, true, false, if◌then◌else◌, Option, Some, None, Result, Ok, Err, ◌⊎◌, ⊎_elim, refl, sym, ap, ◌∙◌, subst, true≢false, arith}
use Rattle.std.specs.Prelude.{insert, IfSome, OnOk, OnErr}
use Rattle.std.specs.Ordering.{is_lt}
use Rattle.std.specs.List.Sorted.{IsPartitionedBy, IsPartitionPoint}
use Rattle.std.proofs.lemmas.Bool.{cases_lt}
use Rattle.std.proofs.lemmas.List.{get_or_past, take_all, take-append-drop, length-take-le, length-drop}
use Rattle.std.proofs.lemmas.List.Concat.{flat_map-append, get_or-flat_map}
use Rattle.std.proofs.lemmas.List.Edits.{insert_end, insert-append_left, insert-append_right, length-insert}
use Rattle.std.proofs.lemmas.List.Elements.{Contains-append_left, Contains-append_right}
use Rattle.std.proofs.lemmas.List.Sums.{prefix_len-le-length, prefix_len_is, prefix_len_passes, prefix_len_stops}
use Rattle.op_core.specs.declared.cursor.Key.{Key}
use Rattle.crdt_rules.specs.Same.{key_eq}
use Rattle.list_laws.proofs.IdOrder.{transitive}
use Rattle.list_laws.proofs.Members.{Contains-here}
use Rattle.list_laws.proofs.Keys.{is_Less}
use Rattle.list_laws.proofs.Bisection.{lesser_first}
use Rattle.list_laws.proofs.Insertion.{rank-within}
use Rattle.key_map.specs.ByKey.{at_key}
use Rattle.key_map.specs.KeyOrder.{key_cmp, key_rank, IsInKeyOrder}
use Rattle.key_map.specs.Blocks.{joined, AreFilled, AreBlocks, ends_before, block_rank}
use Rattle.key_map.proofs.KeyOrder.{keys_ordered}
use Rattle.key_map.proofs.ByKeyLaws.{at_key-own, at_key-rank, at_key-missing, at_key-behind, rising-insert_rank}

module _ {V : Type 0} where
  -- ---- one block, and what comes after it

  pub rising_parts : (block rest : List (Key × V)) → IsInKeyOrder (block ++ rest) → IsInKeyOrder block × IsInKeyOrder rest
  rising_parts [] rest rising = (tt, rising)
  rising_parts (e ∷ block) rest rising =
      let parts = rising_parts block rest rising.1 in
      (((λ y c. rising.0 y (Contains-append_left block rest y c)), parts.0), parts.1)

  module _ (key : Key) where
    pub ends_before-at : (block : List (Key × V)) (d : Key × V) → 0 < length block
        → ends_before key block ≡ is_lt (key_cmp (get_or block (length block - 1) d).0 key)
    ends_before-at [] d some = absurd (omega (arith, some))
    ends_before-at (e ∷ []) d some = refl
    ends_before-at (e ∷ f ∷ block) d some =
        let one : length (f ∷ block) - 1 ≡ length block = omega arith in
        let two : length (e ∷ f ∷ block) - 1 ≡ suc (length block) = omega arith in
        ends_before-at (f ∷ block) d (omega arith)
        ∙ ap (λ n. is_lt (key_cmp (get_or (f ∷ block) n d).0 key)) one
        ∙ ap (λ n. is_lt (key_cmp (get_or (e ∷ f ∷ block) n d).0 key)) (sym two)

    first_lesser : (e : Key × V) (block : List (Key × V)) → 0 < key_rank (e ∷ block) key → is_lt (key_cmp e.0 key) ≡ true
    first_lesser e block some = go (is_lt (key_cmp e.0 key)) some
      where
        go : (b : Bool) → 0 < (if b then 1 + key_rank block key else 0) → b ≡ true
        go true h = refl
        go false h = absurd (omega (arith, h))

    -- where the last key of a block is lesser, all are
    all_lesser : (block : List (Key × V)) → IsInKeyOrder block → ends_before key block ≡ true → key_rank block key ≡ length block
    all_lesser [] rising ends = refl
    all_lesser (e ∷ []) rising ends = ap (λ (b : Bool). if b then 1 + 0 else 0) ends
    all_lesser (e ∷ f ∷ block) rising ends =
        let rest : key_rank (f ∷ block) key ≡ length (f ∷ block) = all_lesser (f ∷ block) rising.1 ends in
        let next = first_lesser f block (subst (λ n. 0 < n) (sym rest) (omega arith)) in
        let first : is_lt (key_cmp e.0 key) ≡ true = ap is_lt (transitive keys_ordered.order {x = e.0} {y = f.0} {z = key} (rising.0 f (Contains-here block refl)) (is_Less (key_cmp f.0 key) next)) in
        let one : 1 + length (f ∷ block) ≡ length (e ∷ f ∷ block) = omega arith in
        ap (λ (b : Bool). if b then 1 + key_rank (f ∷ block) key else 0) first ∙ ap (λ n. 1 + n) rest ∙ one

    -- and where it isn't, not all are
    not_all : (block : List (Key × V)) → ends_before key block ≡ false → key_rank block key < length block
    not_all [] ends = absurd (true≢false ends)
    not_all (e ∷ []) ends = go (is_lt (key_cmp e.0 key)) ends
      where
        go : (b : Bool) → b ≡ false → (if b then 1 + 0 else 0) < 1
        go true h = absurd (true≢false h)
        go false h = omega arith
    not_all (e ∷ f ∷ block) ends = go (is_lt (key_cmp e.0 key)) (key_rank (f ∷ block) key) (length (f ∷ block)) (not_all (f ∷ block) ends)
      where
        go : (b : Bool) (r n : ℕ) → r < n → (if b then 1 + r else 0) < suc n
        go true r n h = omega (arith, h)
        go false r n h = omega arith

    -- so the rank of a key is its rank in the block where it belongs, behind the blocks before
    rank-past : (block rest : List (Key × V)) → key_rank block key ≡ length block → key_rank (block ++ rest) key ≡ length block + key_rank rest key
    rank-past [] rest all = let none : key_rank rest key ≡ 0 + key_rank rest key = omega arith in none
    rank-past (e ∷ block) rest all = go (is_lt (key_cmp e.0 key)) all (λ h. rank-past block rest h)
      where
        go : (b : Bool) → (if b then 1 + key_rank block key else 0) ≡ length (e ∷ block) → (key_rank block key ≡ length block → key_rank (block ++ rest) key ≡ length block + key_rank rest key)
            → (if b then 1 + key_rank (block ++ rest) key else 0) ≡ length (e ∷ block) + key_rank rest key
        go true h ih = let on = ih (omega (arith, h)) in omega (arith, on)
        go false h ih = absurd (omega (arith, h))

    rank-here : (block rest : List (Key × V)) → key_rank block key < length block → key_rank (block ++ rest) key ≡ key_rank block key
    rank-here [] rest some = absurd (omega (arith, some))
    rank-here (e ∷ block) rest some = go (is_lt (key_cmp e.0 key)) some (λ h. rank-here block rest h)
      where
        go : (b : Bool) → (if b then 1 + key_rank block key else 0) < length (e ∷ block) → (key_rank block key < length block → key_rank (block ++ rest) key ≡ key_rank block key)
            → (if b then 1 + key_rank (block ++ rest) key else 0) ≡ (if b then 1 + key_rank block key else 0)
        go true h ih = ap (λ n. 1 + n) (ih (omega (arith, h)))
        go false h ih = refl

  -- ---- all blocks

  -- the first of some
  first_of : (entries : List (Key × V)) → 0 < length entries → Key × V
  first_of [] some = absurd (omega (arith, some))
  first_of (e ∷ entries) some = e

  filled_at : (blocks : List (List (Key × V))) → AreFilled blocks → (n : ℕ) (d : List (Key × V)) → n < length blocks → 0 < length (get_or blocks n d)
  filled_at [] filled n d within = absurd (omega (arith, within))
  filled_at (block ∷ blocks) filled zero d within = filled.0
  filled_at (block ∷ blocks) filled (suc n) d within = filled_at blocks filled.1 n d (omega (arith, within))

  pub rising_at : (blocks : List (List (Key × V))) → IsInKeyOrder (joined blocks) → (n : ℕ) (d : List (Key × V)) → n < length blocks → IsInKeyOrder (get_or blocks n d)
  rising_at [] rising n d within = absurd (omega (arith, within))
  rising_at (block ∷ blocks) rising zero d within = (rising_parts block (joined blocks) rising).0
  rising_at (block ∷ blocks) rising (suc n) d within = rising_at blocks (rising_parts block (joined blocks) rising).1 n d (omega (arith, within))

  -- where a block ends, and where it begins
  start : List (List (Key × V)) → ℕ → ℕ
  start blocks n = length (joined (take n blocks))

  start-next : (blocks : List (List (Key × V))) (n : ℕ) (d : List (Key × V)) → n < length blocks
      → length (joined (take (suc n) blocks)) ≡ length (joined (take n blocks)) + length (get_or blocks n d)
  start-next [] n d within = absurd (omega (arith, within))
  start-next (block ∷ blocks) zero d within = omega (arith, length-append block [])
  start-next (block ∷ blocks) (suc n) d within =
      let on = start-next blocks n d (omega (arith, within)) in
      omega (arith, on, length-append block (joined (take (suc n) blocks)), length-append block (joined (take n blocks)))

  starts_rise : (blocks : List (List (Key × V))) (n m : ℕ) (d : List (Key × V)) → n < m → m ≤ length blocks
      → length (joined (take n blocks)) + length (get_or blocks n d) ≤ length (joined (take m blocks))
  starts_rise blocks n zero d less within = absurd (omega (arith, less))
  starts_rise blocks n (suc m) d less within = ⊎_elim
      (λ earlier.
      let on = starts_rise blocks n m d earlier (omega (arith, within)) in
      omega (arith, on, start-next blocks m d (omega (arith, within))))
      (λ last.
      let same : n ≡ m = omega (arith, less, last) in
      subst (λ (z : ℕ). length (joined (take z blocks)) + length (get_or blocks z d) ≤ length (joined (take (suc m) blocks))) (sym same)
      (omega (arith, start-next blocks m d (omega (arith, within)))))
      (cases_lt n m)

  ends_within : (blocks : List (List (Key × V))) (n : ℕ) (d : List (Key × V)) → n < length blocks
      → length (joined (take n blocks)) + length (get_or blocks n d) ≤ length (joined blocks)
  ends_within blocks n d within =
      subst (λ (bs : List (List (Key × V))). length (joined (take n blocks)) + length (get_or blocks n d) ≤ length (joined bs))
      (take_all (length blocks) blocks (omega arith)) (starts_rise blocks n (length blocks) d within (omega arith))

  module _ (key : Key) where
    rank-joined : (blocks : List (List (Key × V))) → IsInKeyOrder (joined blocks)
        → key_rank (joined blocks) key ≡ length (joined (take (block_rank key blocks) blocks)) + key_rank (get_or blocks (block_rank key blocks) []) key
    rank-joined [] rising = refl
    rank-joined (block ∷ blocks) rising = go (ends_before key block) refl (rank-joined blocks parts.1)
      where
        parts : IsInKeyOrder block × IsInKeyOrder (joined blocks)
        parts = rising_parts block (joined blocks) rising

        sums : (b a r j : ℕ) → j ≡ b + a → b + (a + r) ≡ j + r
        sums b a r j e = omega (arith, e)

        none_before : (r : ℕ) → r ≡ 0 + r
        none_before r = omega arith

        go : (b : Bool) → ends_before key block ≡ b
            → key_rank (joined blocks) key ≡ length (joined (take (block_rank key blocks) blocks)) + key_rank (get_or blocks (block_rank key blocks) []) key
            → key_rank (block ++ joined blocks) key
            ≡ length (joined (take (if b then 1 + block_rank key blocks else 0) (block ∷ blocks))) + key_rank (get_or (block ∷ blocks) (if b then 1 + block_rank key blocks else 0) []) key
        go true ends ih =
            let one : 1 + block_rank key blocks ≡ suc (block_rank key blocks) = omega arith in
            rw one
            (rank-past key block (joined blocks) (all_lesser key block parts.0 ends) ∙ ap (λ r. length block + r) ih
            ∙ sums (length block) (length (joined (take (block_rank key blocks) blocks))) (key_rank (get_or blocks (block_rank key blocks) []) key)
            (length (block ++ joined (take (block_rank key blocks) blocks))) (length-append block (joined (take (block_rank key blocks) blocks))))
        go false ends ih = rank-here key block (joined blocks) (not_all key block ends) ∙ none_before (key_rank block key)

    -- blocks that end with a lesser key come first
    pub ends_first : (blocks : List (List (Key × V))) → AreBlocks blocks → IsPartitionedBy (ends_before key) blocks
    ends_first blocks are i j d le within ends = ⊎_elim
        (λ less.
        let e = first_of (get_or blocks j d) (filled_at blocks are.filled j d within) in
        let some_i = filled_at blocks are.filled i d (omega (arith, less, within)) in
        let some_j = filled_at blocks are.filled j d within in
        let apart = starts_rise blocks i j d less (omega (arith, within)) in
        let inside = ends_within blocks j d within in
        let last_i = length (joined (take i blocks)) + (length (get_or blocks i d) - 1) in
        let last_j = length (joined (take j blocks)) + (length (get_or blocks j d) - 1) in
        let read_i = get_or-flat_map (λ (b : List (Key × V)). b) blocks i (length (get_or blocks i d) - 1) d e (omega (arith, less, within)) (omega (arith, some_i)) in
        let read_j = get_or-flat_map (λ (b : List (Key × V)). b) blocks j (length (get_or blocks j d) - 1) d e within (omega (arith, some_j)) in
        let lesser_j : is_lt (key_cmp (get_or (joined blocks) last_j e).0 key) ≡ true =
        ap (λ (x : Key × V). is_lt (key_cmp x.0 key)) read_j ∙ sym (ends_before-at key (get_or blocks j d) e some_j) ∙ ends in
        let lesser_i : is_lt (key_cmp (get_or (joined blocks) last_i e).0 key) ≡ true =
        lesser_first keys_ordered (joined blocks) key are.rising last_i last_j e (omega (arith, apart, some_i)) (omega (arith, inside, some_j)) lesser_j in
        ends_before-at key (get_or blocks i d) e some_i ∙ ap (λ (x : Key × V). is_lt (key_cmp x.0 key)) (sym read_i) ∙ lesser_i)
        (λ more. let same : j ≡ i = omega (arith, le, more) in subst (λ (n : ℕ). ends_before key (get_or blocks n d) ≡ true) same ends)
        (cases_lt i j)

    -- so bisection finds how many they are
    pub block_rank_is : (blocks : List (List (Key × V))) (n : ℕ) → n ≤ length blocks
        → IsPartitionPoint (λ b. ends_before key b ≡ true) (λ b. ends_before key b ≡ false) blocks n → n ≡ block_rank key blocks
    block_rank_is blocks n within point =
        sym (prefix_len_is (ends_before key) blocks n [] within (λ k below. point.0 k [] (omega arith) below) (λ inside. point.1 n [] (omega arith) inside))

    pub block_rank-within : (blocks : List (List (Key × V))) → block_rank key blocks ≤ length blocks
    block_rank-within blocks = prefix_len-le-length (ends_before key) blocks

    module _ (blocks : List (List (Key × V))) (are : AreBlocks blocks) where
      -- a key that is greater than all
      rank-greatest : length blocks ≤ block_rank key blocks → key_rank (joined blocks) key ≡ length (joined blocks)
      rank-greatest past =
          let none : get_or blocks (block_rank key blocks) [] ≡ [] = get_or_past blocks (block_rank key blocks) [] past in
          let after : key_rank (get_or blocks (block_rank key blocks) []) key ≡ 0 = ap (λ (b : List (Key × V)). key_rank b key) none in
          let before : length (joined (take (block_rank key blocks) blocks)) ≡ length (joined blocks) =
          ap (λ (bs : List (List (Key × V))). length (joined bs)) (take_all (block_rank key blocks) blocks past) in
          rank-joined blocks are.rising ∙ total (length (joined (take (block_rank key blocks) blocks))) (length (joined blocks)) (key_rank (get_or blocks (block_rank key blocks) []) key) before after
        where
          total : (a b r : ℕ) → a ≡ b → r ≡ 0 → a + r ≡ b
          total a b r e f = omega (arith, e, f)

      -- is nowhere
      pub at_key-past : length blocks ≤ block_rank key blocks → at_key (joined blocks) key ≡ None
      at_key-past past = at_key-behind (joined blocks) key are.rising (omega (arith, rank-greatest past))

      -- and any other is in its block, or nowhere
      pub at_key-block : block_rank key blocks < length blocks → at_key (joined blocks) key ≡ at_key (get_or blocks (block_rank key blocks) []) key
      at_key-block within = go (key_eq (get_or block (key_rank block key) d).0 key) refl
        where
          n : ℕ
          n = block_rank key blocks

          block : List (Key × V)
          block = get_or blocks (block_rank key blocks) []

          inside : key_rank block key < length block
          inside = not_all key block (prefix_len_stops (ends_before key) blocks [] within)

          d : Key × V
          d = first_of block (omega (arith, inside))

          at : get_or (joined blocks) (key_rank (joined blocks) key) d ≡ get_or block (key_rank block key) d
          at =
              ap (λ (m : ℕ). get_or (joined blocks) m d) (rank-joined blocks are.rising)
              ∙ get_or-flat_map (λ (b : List (Key × V)). b) blocks (block_rank key blocks) (key_rank block key) [] d within inside

          inside_all : key_rank (joined blocks) key < length (joined blocks)
          inside_all = omega (arith, rank-joined blocks are.rising, ends_within blocks (block_rank key blocks) [] within, inside)

          go : (b : Bool) → key_eq (get_or block (key_rank block key) d).0 key ≡ b → at_key (joined blocks) key ≡ at_key block key
          go true same =
              at_key-rank (joined blocks) key d inside_all (ap (λ (e : Key × V). key_eq e.0 key) at ∙ same)
              ∙ ap (λ (e : Key × V). Some e.1) at
              ∙ sym (at_key-rank block key d inside same)
          go false other =
              at_key-missing (joined blocks) key d are.rising (λ _. ap (λ (e : Key × V). key_eq e.0 key) at ∙ other)
              ∙ sym (at_key-missing block key d (rising_at blocks are.rising (block_rank key blocks) [] within) (λ _. other))

  pub joined-Contains : (blocks : List (List (Key × V))) (n : ℕ) (e : Key × V) → n < length blocks → Contains (get_or blocks n []) e → Contains (joined blocks) e
  joined-Contains [] n e within has = absurd (omega (arith, within))
  joined-Contains (block ∷ blocks) zero e within has = Contains-append_left block (joined blocks) e has
  joined-Contains (block ∷ blocks) (suc n) e within has =
      Contains-append_right block (joined blocks) e (joined-Contains blocks n e (omega (arith, within)) has)

  -- an entry of a block is found by its key
  pub at_key-there : (blocks : List (List (Key × V))) → AreBlocks blocks → (n : ℕ) (key : Key) (value : V) → n < length blocks
      → Contains (get_or blocks n []) (key, value) → at_key (joined blocks) key ≡ Some value
  at_key-there blocks are n key value within has = at_key-own (joined blocks) are.rising (key, value) (joined-Contains blocks n (key, value) within has)

  -- ---- what is inserted into a block

  joined-insert : (blocks : List (List (Key × V))) (n r : ℕ) (x : Key × V) → n < length blocks → r ≤ length (get_or blocks n [])
      → joined (set blocks n (insert (get_or blocks n []) r x)) ≡ insert (joined blocks) (length (joined (take n blocks)) + r) x
  joined-insert [] n r x within le = absurd (omega (arith, within))
  joined-insert (block ∷ blocks) zero r x within le =
      let none : r ≡ 0 + r = omega arith in
      sym (insert-append_left block (joined blocks) r x le) ∙ ap (λ (m : ℕ). insert (block ++ joined blocks) m x) none
  joined-insert (block ∷ blocks) (suc n) r x within le =
      let sum = length-append block (joined (take n blocks)) in
      let rest : length (block ++ joined (take n blocks)) + r - length block ≡ length (joined (take n blocks)) + r = omega (arith, sum) in
      ap (λ (l : List (Key × V)). block ++ l) (joined-insert blocks n r x (omega (arith, within)) le)
      ∙ ap (λ (m : ℕ). block ++ insert (joined blocks) m x) (sym rest)
      ∙ sym (insert-append_right block (joined blocks) (length block) (length (block ++ joined (take n blocks)) + r) x refl (omega (arith, sum)))

  filled-set : (blocks : List (List (Key × V))) (n : ℕ) (block : List (Key × V)) → AreFilled blocks → 0 < length block → AreFilled (set blocks n block)
  filled-set [] n block filled some = filled
  filled-set (b ∷ blocks) zero block filled some = (some, filled.1)
  filled-set (b ∷ blocks) (suc n) block filled some = (filled.0, filled-set blocks n block filled.1 some)

  filled-more : (blocks : List (List (Key × V))) (block : List (Key × V)) → AreFilled blocks → 0 < length block → AreFilled (blocks ++ block ∷ [])
  filled-more [] block filled some = (some, tt)
  filled-more (b ∷ blocks) block filled some = (filled.0, filled-more blocks block filled.1 some)

  module _ (key : Key) (value : V) (blocks : List (List (Key × V))) (are : AreBlocks blocks) where
    -- a key that is nowhere yet, in its block
    pub joined-here : block_rank key blocks < length blocks
        → joined (set blocks (block_rank key blocks) (insert (get_or blocks (block_rank key blocks) []) (key_rank (get_or blocks (block_rank key blocks) []) key) (key, value)))
        ≡ insert (joined blocks) (key_rank (joined blocks) key) (key, value)
    joined-here within =
        joined-insert blocks (block_rank key blocks) (key_rank (get_or blocks (block_rank key blocks) []) key) (key, value) within
        (rank-within keys_ordered (get_or blocks (block_rank key blocks) []) key)
        ∙ ap (λ (m : ℕ). insert (joined blocks) m (key, value)) (sym (rank-joined key blocks are.rising))

    -- a key that is greater than all, in the last block
    pub joined-last : length blocks ≤ block_rank key blocks → (n : ℕ) → n + 1 ≡ length blocks
        → joined (set blocks n (insert (get_or blocks n []) (key_rank (get_or blocks n []) key) (key, value))) ≡ insert (joined blocks) (key_rank (joined blocks) key) (key, value)
    joined-last past n last =
        joined-insert blocks n (key_rank (get_or blocks n []) key) (key, value) within (rank-within keys_ordered (get_or blocks n []) key)
        ∙ ap (λ (m : ℕ). insert (joined blocks) m (key, value))
        (ap (λ (r : ℕ). length (joined (take n blocks)) + r) all ∙ whole ∙ sym (rank-greatest key blocks are past))
      where
        within : n < length blocks
        within = omega (arith, last)

        all : key_rank (get_or blocks n []) key ≡ length (get_or blocks n [])
        all = all_lesser key (get_or blocks n []) (rising_at blocks are.rising n [] within) (prefix_len_passes (ends_before key) blocks n [] (omega (arith, last, past)))

        whole : length (joined (take n blocks)) + length (get_or blocks n []) ≡ length (joined blocks)
        whole =
            let next : suc n ≡ length blocks = omega (arith, last) in
            sym (start-next blocks n [] within)
            ∙ ap (λ (bs : List (List (Key × V))). length (joined bs)) (take_all (suc n) blocks (omega (arith, next)))

    -- or in a block of its own
    pub joined-own : length blocks ≤ block_rank key blocks → joined (blocks ++ ((key, value) ∷ []) ∷ []) ≡ insert (joined blocks) (key_rank (joined blocks) key) (key, value)
    joined-own past =
        flat_map-append (λ (b : List (Key × V)). b) blocks (((key, value) ∷ []) ∷ [])
        ∙ sym (insert_end (joined blocks) (key, value))
        ∙ ap (λ (m : ℕ). insert (joined blocks) m (key, value)) (sym (rank-greatest key blocks are past))

    -- one of these is right
    pub joined-open : (n : ℕ) → n < length blocks → (n ≡ block_rank key blocks) ⊎ ((n + 1 ≡ block_rank key blocks) × (block_rank key blocks ≡ length blocks))
        → joined (set blocks n (insert (get_or blocks n []) (key_rank (get_or blocks n []) key) (key, value))) ≡ insert (joined blocks) (key_rank (joined blocks) key) (key, value)
    joined-open n within which = ⊎_elim
        (λ here.
        subst (λ (m : ℕ). joined (set blocks m (insert (get_or blocks m []) (key_rank (get_or blocks m []) key) (key, value))) ≡ insert (joined blocks) (key_rank (joined blocks) key) (key, value)) (sym here)
        (joined-here (omega (arith, here, within))))
        (λ last. joined-last (omega (arith, last.1)) n (last.0 ∙ last.1))
        which

    pub blocks-open : at_key (joined blocks) key ≡ None → (n : ℕ) → n < length blocks
        → (n ≡ block_rank key blocks) ⊎ ((n + 1 ≡ block_rank key blocks) × (block_rank key blocks ≡ length blocks))
        → AreBlocks (set blocks n (insert (get_or blocks n []) (key_rank (get_or blocks n []) key) (key, value)))
    blocks-open none n within which = record {
      filled = filled-set blocks n (insert (get_or blocks n []) (key_rank (get_or blocks n []) key) (key, value)) are.filled
          (omega (arith, length-insert (get_or blocks n []) (key_rank (get_or blocks n []) key) (key, value) (rank-within keys_ordered (get_or blocks n []) key)));
      rising = subst IsInKeyOrder (sym (joined-open n within which)) (rising-insert_rank (joined blocks) key value are.rising none);
    }

    pub blocks-own : at_key (joined blocks) key ≡ None → length blocks ≤ block_rank key blocks → AreBlocks (blocks ++ ((key, value) ∷ []) ∷ [])
    blocks-own none past = record {
      filled = filled-more blocks ((key, value) ∷ []) are.filled (omega arith);
      rising = subst IsInKeyOrder (sym (joined-own past)) (rising-insert_rank (joined blocks) key value are.rising none);
    }

  -- ---- a block is cut in two

  pub joined-cut : (blocks : List (List (Key × V))) (n h : ℕ) → n < length blocks
      → joined (insert (set blocks n (take h (get_or blocks n []))) (n + 1) (drop h (get_or blocks n []))) ≡ joined blocks
  joined-cut blocks n h within = let one : n + 1 ≡ suc n = omega arith in rw one (go blocks n within)
    where
      go : (bs : List (List (Key × V))) (m : ℕ) → m < length bs → joined (insert (set bs m (take h (get_or bs m []))) (suc m) (drop h (get_or bs m []))) ≡ joined bs
      go [] m inside = absurd (omega (arith, inside))
      go (b ∷ bs) zero inside =
          sym (append_assoc (take h b) (drop h b) (joined bs)) ∙ ap (λ (l : List (Key × V)). l ++ joined bs) (take-append-drop h b)
      go (b ∷ bs) (suc m) inside = ap (λ (l : List (Key × V)). b ++ l) (go bs m (omega (arith, inside)))

  filled-cut : (blocks : List (List (Key × V))) (n : ℕ) (b c : List (Key × V)) → AreFilled blocks → 0 < length b → 0 < length c
      → AreFilled (insert (set blocks n b) (suc n) c)
  filled-cut [] n b c filled some more = (more, tt)
  filled-cut (a ∷ blocks) zero b c filled some more = (some, (more, filled.1))
  filled-cut (a ∷ blocks) (suc n) b c filled some more = (filled.0, filled-cut blocks n b c filled.1 some more)

  pub blocks-cut : (blocks : List (List (Key × V))) (n h : ℕ) → AreBlocks blocks → n < length blocks → 0 < h → h < length (get_or blocks n [])
      → AreBlocks (insert (set blocks n (take h (get_or blocks n []))) (n + 1) (drop h (get_or blocks n [])))
  blocks-cut blocks n h are within some more = record {
    filled =
        let one : n + 1 ≡ suc n = omega arith in
        rw one
        (filled-cut blocks n (take h (get_or blocks n [])) (drop h (get_or blocks n [])) are.filled
        (omega (arith, some, length-take-le h (get_or blocks n []) (omega (arith, more)))) (omega (arith, more, length-drop h (get_or blocks n []))));
    rising = subst IsInKeyOrder (sym (joined-cut blocks n h within)) are.rising;
  }

  -- ---- the entry where bisection ends, in blocks that are read twice
  pub where_sought : (key : Key) (blocks far near : List (List (Key × V))) (block place : ℕ) (result : Option V) → far ≡ blocks → near ≡ blocks
      → block ≡ block_rank key far → place ≡ key_rank (get_or far block []) key
      → (block ≡ block_rank key near → place ≡ key_rank (get_or near block []) key → result ≡ at_key (joined near) key) → result ≡ at_key (joined blocks) key
  where_sought key blocks far near block place result is are here there found =
      let same : far ≡ near = is ∙ sym are in
      found (here ∙ ap (block_rank key) same) (there ∙ ap (λ (bs : List (List (Key × V))). key_rank (get_or bs block []) key) same)
      ∙ ap (λ (bs : List (List (Key × V))). at_key (joined bs) key) are

-- ---- what holds after a call that may be refused
module _ {T E : Type 0} {P Q X : Type 0} where
  pub either_way : (r : Result T E) → (P → X) → (Q → X) → OnOk r P → OnErr r Q → X
  either_way (Ok x) f g ok err = f ok
  either_way (Err e) f g ok err = g err

pub where_some : {X : Type 0} {P Q : X → Type 0} (r : Option X) → ((x : X) → P x → Q x) → IfSome r P → IfSome r Q
where_some None f some = tt
where_some (Some x) f some = f x some
