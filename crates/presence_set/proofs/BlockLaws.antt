-- Laws of pairs in blocks: which block takes an id, and what a cut and a clearing leave.
use Rattle.std.proofs.Common.{◌≡◌, inl, inr, ℕ, zero, suc, ◌<◌, ◌≤◌, ◌+◌, List, [], ◌∷◌, ◌++◌, append_assoc, append-nil, length, get_or, set, take, drop, map, filter, Bool, true, false, not, if◌then◌else◌, Some, Contains, refl, sym, ap, ◌∙◌, subst, true≢false, arith, Less}
use Rattle.std.specs.Prelude.{insert, is_some}
use Rattle.std.specs.Ordering.{is_lt}
use Rattle.std.specs.Bool.{◌==◌}
use Rattle.std.specs.List.Sorted.{IsPartitionedBy, IsPartitionPoint}
use Rattle.std.proofs.lemmas.Bool.Decides.{nat_tests}
use Rattle.std.proofs.lemmas.List.{take-append-drop, take-set, length-set, drop-set-lt}
use Rattle.std.proofs.lemmas.List.Sums.{prefix_len_is}
use Rattle.std.proofs.lemmas.List.Elements.{Contains-append_left, Contains-append_right}
use Rattle.doc_api.specs.Words.{Id, id_cmp}
use Rattle.version_vector.specs.Front.{covers}
use Rattle.list_laws.proofs.IdOrder.{transitive}
use Rattle.list_laws.proofs.Members.{Contains-nil, Contains-here, Contains-there, Contains-cases}
use Rattle.crdt_rules.specs.Same.{id_eq}
use Rattle.crdt_rules.proofs.SameLaws.{id_decides}
use Rattle.crdt_rules.proofs.WalkLaws.{id_order}
use Rattle.list_laws.proofs.Keys.{is_Less, apart, apart_back, greater_is, not_less_back}
use Rattle.list_laws.proofs.Rising.{IsRising-split}
use Rattle.presence_set.specs.ById.{put_at_id, get, contains, uncovered, IsAscending}
use Rattle.presence_set.specs.Blocks.{pairs_in, has_pair, starts_by, blocks_by, AreNonEmpty, HasSpareRoom, AllHaveRoom, HaveRoomBut, HaveRoomFor}
use Rattle.presence_set.specs.declared.lack.Lack.{Lack}
use Rattle.presence_set.specs.declared.lack.Lack.TheVariants.{InRest, Anywhere}
use Rattle.presence_set.proofs.Ascending.{ids_ordered}
use Rattle.presence_set.proofs.ByIdLaws.{contains-get, length-uncovered}

-- less than one that isn't greater
less_le : (a b c : Id) → id_cmp a b ≡ Less → is_lt (id_cmp c b) ≡ false → id_cmp a c ≡ Less
less_le a b c less over = go (is_lt (id_cmp b c)) refl (id_eq b c) refl
  where
    go : (x : Bool) → is_lt (id_cmp b c) ≡ x → (y : Bool) → id_eq b c ≡ y → id_cmp a c ≡ Less
    go true is y at = transitive id_order {x = a} {y = b} {z = c} less (is_Less (id_cmp b c) is)
    go false is true at = subst (λ z. id_cmp a z ≡ Less) (id_decides.same b c at) less
    go false is false at = absurd (true≢false (sym (ap is_lt (greater_is ids_ordered b c is at)) ∙ over))

not_true : (b : Bool) → not b ≡ true → b ≡ false
not_true true e = absurd (true≢false (sym e))
not_true false e = refl

module _ {X : Type 0} where
  -- a block with room for so many
  abbrev pub a_block : List (Id × X) → ℕ → List (Id × X) × ℕ
  a_block entries room = (entries, room)

  pub rising_parts : (xs ys : List (Id × X)) → IsAscending (xs ++ ys) → IsAscending xs × IsAscending ys
  rising_parts [] ys rising = (tt, rising)
  rising_parts (x ∷ xs) ys rising =
      let rest = rising_parts xs ys rising.1 in
      (((λ y c. rising.0 y (Contains-append_left xs ys y c)), rest.0), rest.1)

  pub rising-take : (n : ℕ) (xs : List (Id × X)) → IsAscending xs → IsAscending (take n xs)
  rising-take n xs rising = (rising_parts (take n xs) (drop n xs) (subst IsAscending (sym (take-append-drop n xs)) rising)).0

  pub rising-drop : (n : ℕ) (xs : List (Id × X)) → IsAscending xs → IsAscending (drop n xs)
  rising-drop n xs rising = (rising_parts (take n xs) (drop n xs) (subst IsAscending (sym (take-append-drop n xs)) rising)).1

  -- ---- which block takes an id

  put-past : (xs ys : List (Id × X)) (id : Id) (x : X) → ((e : Id × X) → Contains xs e → id_cmp e.0 id ≡ Less) → put_at_id (xs ++ ys) id x ≡ xs ++ put_at_id ys id x
  put-past [] ys id x below = refl
  put-past (e ∷ xs) ys id x below =
      rw (ap is_lt (below e (Contains-here xs refl))) (ap (λ l. e ∷ l) (put-past xs ys id x (λ y c. below y (Contains-there e xs c))))

  put-before : (xs ys : List (Id × X)) (id : Id) (x : X) → put_at_id ys id x ≡ (id, x) ∷ ys → put_at_id (xs ++ ys) id x ≡ put_at_id xs id x ++ ys
  put-before [] ys id x above = above
  put-before (e ∷ xs) ys id x above = go (is_lt (id_cmp e.0 id)) (id_eq e.0 id) (put-before xs ys id x above)
    where
      go : (less same : Bool) → put_at_id (xs ++ ys) id x ≡ put_at_id xs id x ++ ys
          → (if less then e ∷ put_at_id (xs ++ ys) id x else if same then (id, x) ∷ (xs ++ ys) else (id, x) ∷ e ∷ (xs ++ ys))
          ≡ (if less then e ∷ put_at_id xs id x else if same then (id, x) ∷ xs else (id, x) ∷ e ∷ xs) ++ ys
      go true same ih = ap (λ l. e ∷ l) ih
      go false true ih = refl
      go false false ih = refl

  put-above : (e : Id × X) (ys : List (Id × X)) (id : Id) (x : X) → is_lt (id_cmp id e.0) ≡ true → put_at_id (e ∷ ys) id x ≡ (id, x) ∷ e ∷ ys
  put-above e ys id x less =
      let first = is_Less (id_cmp id e.0) less in
      rw (not_less_back id_order id e.0 first, apart_back ids_ordered id e.0 first) refl

  below_start : (xs : List (Id × X)) (e : Id × X) (ys : List (Id × X)) (id : Id) → IsAscending (xs ++ e ∷ ys) → is_lt (id_cmp id e.0) ≡ false
      → (y : Id × X) → Contains xs y → id_cmp y.0 id ≡ Less
  below_start xs e ys id rising over y c =
      less_le y.0 e.0 id ((IsRising-split id_order (λ (z : Id × X). z.0) xs ys e rising).0 y c) over

  pub put_has : (xs : List (Id × X)) (id : Id) (x : X) → has_pair (put_at_id xs id x) ≡ true
  put_has [] id x = refl
  put_has (e ∷ xs) id x = go (is_lt (id_cmp e.0 id)) (id_eq e.0 id)
    where
      go : (less same : Bool) → has_pair (if less then e ∷ put_at_id xs id x else if same then (id, x) ∷ xs else (id, x) ∷ e ∷ xs) ≡ true
      go true same = refl
      go false true = refl
      go false false = refl

  -- an id goes into the first block, or into the last of those that start with an id that isn't greater
  pub put_first : (xs : List (Id × X)) (rest : List (List (Id × X) × ℕ)) (id : Id) (x : X) → AreNonEmpty rest
      → blocks_by id rest ≡ 0 → put_at_id (xs ++ pairs_in rest) id x ≡ put_at_id xs id x ++ pairs_in rest
  put_first xs [] id x filled none = put-before xs [] id x refl
  put_first xs (([], n) ∷ rest) id x filled none = absurd (true≢false (sym filled.0))
  put_first xs ((e ∷ es, n) ∷ rest) id x filled none =
      put-before xs (e ∷ es ++ pairs_in rest) id x (put-above e (es ++ pairs_in rest) id x (go (is_lt (id_cmp id e.0)) none))
    where
      go : (b : Bool) → (if not b then 1 + blocks_by id rest else 0) ≡ 0 → b ≡ true
      go true h = refl
      go false h = absurd (omega (arith, h))

  pub put_rest : (xs : List (Id × X)) (rest : List (List (Id × X) × ℕ)) (id : Id) (x : X) (k : ℕ) (d : List (Id × X) × ℕ)
      → IsAscending (xs ++ pairs_in rest) → AreNonEmpty rest → blocks_by id rest ≡ suc k
      → put_at_id (xs ++ pairs_in rest) id x ≡ xs ++ pairs_in (set rest k (put_at_id (get_or rest k d).0 id x, (get_or rest k d).1))
  put_rest xs [] id x k d rising filled some = absurd (omega (arith, some))
  put_rest xs (([], n) ∷ rest) id x k d rising filled some = absurd (true≢false (sym filled.0))
  put_rest xs ((e ∷ es, n) ∷ rest) id x k d rising filled some =
      go (is_lt (id_cmp id e.0)) refl some (λ j there. put_rest (e ∷ es) rest id x j d next filled.1 there)
    where
      next : IsAscending (e ∷ es ++ pairs_in rest)
      next = (rising_parts xs (e ∷ es ++ pairs_in rest) rising).1

      in_this : (m : ℕ) → blocks_by id rest ≡ m
          → ((j : ℕ) → blocks_by id rest ≡ suc j → put_at_id (e ∷ es ++ pairs_in rest) id x ≡ e ∷ es ++ pairs_in (set rest j (put_at_id (get_or rest j d).0 id x, (get_or rest j d).1)))
          → put_at_id (e ∷ es ++ pairs_in rest) id x ≡ pairs_in (set ((e ∷ es, n) ∷ rest) m (put_at_id (get_or ((e ∷ es, n) ∷ rest) m d).0 id x, (get_or ((e ∷ es, n) ∷ rest) m d).1))
      in_this zero here ih = put_first (e ∷ es) rest id x filled.1 here
      in_this (suc j) there ih = ih j there

      go : (b : Bool) → is_lt (id_cmp id e.0) ≡ b → (if not b then 1 + blocks_by id rest else 0) ≡ suc k
          → ((j : ℕ) → blocks_by id rest ≡ suc j → put_at_id (e ∷ es ++ pairs_in rest) id x ≡ e ∷ es ++ pairs_in (set rest j (put_at_id (get_or rest j d).0 id x, (get_or rest j d).1)))
          → put_at_id (xs ++ (e ∷ es ++ pairs_in rest)) id x
          ≡ xs ++ pairs_in (set ((e ∷ es, n) ∷ rest) k (put_at_id (get_or ((e ∷ es, n) ∷ rest) k d).0 id x, (get_or ((e ∷ es, n) ∷ rest) k d).1))
      go true is h ih = absurd (omega (arith, h))
      go false is h ih =
          let behind : blocks_by id rest ≡ k = omega (arith, h) in
          put-past xs (e ∷ es ++ pairs_in rest) id x (below_start xs e (es ++ pairs_in rest) id rising is) ∙ ap (λ l. xs ++ l) (in_this k behind ih)

  -- ---- which block has an id

  get-past : (xs ys : List (Id × X)) (id : Id) → ((e : Id × X) → Contains xs e → id_cmp e.0 id ≡ Less) → get (xs ++ ys) id ≡ get ys id
  get-past [] ys id below = refl
  get-past (e ∷ xs) ys id below =
      rw (apart ids_ordered e.0 id (below e (Contains-here xs refl))) (get-past xs ys id (λ y c. below y (Contains-there e xs c)))

  get-before : (xs ys : List (Id × X)) (id : Id) → ((e : Id × X) → Contains ys e → id_cmp id e.0 ≡ Less) → get (xs ++ ys) id ≡ get xs id
  get-before [] [] id above = refl
  get-before [] (e ∷ ys) id above =
      rw (apart_back ids_ordered id e.0 (above e (Contains-here ys refl))) (get-before [] ys id (λ y c. above y (Contains-there e ys c)))
  get-before (e ∷ xs) ys id above = ap (λ o. if id_eq e.0 id then Some e.1 else o) (get-before xs ys id above)

  -- what stands at an id stands in the first, or in the last of those that start with an id that isn't greater
  pub get_first : (xs : List (Id × X)) (rest : List (List (Id × X) × ℕ)) (id : Id) → IsAscending (xs ++ pairs_in rest) → AreNonEmpty rest
      → blocks_by id rest ≡ 0 → get (xs ++ pairs_in rest) id ≡ get xs id
  get_first xs [] id rising filled none = get-before xs [] id (λ e c. absurd (Contains-nil c))
  get_first xs (([], n) ∷ rest) id rising filled none = absurd (true≢false (sym filled.0))
  get_first xs ((e ∷ es, n) ∷ rest) id rising filled none =
      get-before xs (e ∷ es ++ pairs_in rest) id (λ y c. elim (Contains-cases e (es ++ pairs_in rest) c) [
        | inl first ↦ subst (λ (z : Id × X). id_cmp id z.0 ≡ Less) first less
        | inr later ↦ transitive id_order {x = id} {y = e.0} {z = y.0} less (next.0 y later)
      ])
    where
      next : IsAscending (e ∷ es ++ pairs_in rest)
      next = (rising_parts xs (e ∷ es ++ pairs_in rest) rising).1

      go : (b : Bool) → (if not b then 1 + blocks_by id rest else 0) ≡ 0 → b ≡ true
      go true h = refl
      go false h = absurd (omega (arith, h))

      less : id_cmp id e.0 ≡ Less
      less = is_Less (id_cmp id e.0) (go (is_lt (id_cmp id e.0)) none)

  pub get_rest : (xs : List (Id × X)) (rest : List (List (Id × X) × ℕ)) (id : Id) (k : ℕ) (d : List (Id × X) × ℕ)
      → IsAscending (xs ++ pairs_in rest) → AreNonEmpty rest → blocks_by id rest ≡ suc k
      → get (xs ++ pairs_in rest) id ≡ get (get_or rest k d).0 id
  get_rest xs [] id k d rising filled some = absurd (omega (arith, some))
  get_rest xs (([], n) ∷ rest) id k d rising filled some = absurd (true≢false (sym filled.0))
  get_rest xs ((e ∷ es, n) ∷ rest) id k d rising filled some =
      go (is_lt (id_cmp id e.0)) refl some (λ j there. get_rest (e ∷ es) rest id j d next filled.1 there)
    where
      next : IsAscending (e ∷ es ++ pairs_in rest)
      next = (rising_parts xs (e ∷ es ++ pairs_in rest) rising).1

      in_this : (m : ℕ) → blocks_by id rest ≡ m
          → ((j : ℕ) → blocks_by id rest ≡ suc j → get (e ∷ es ++ pairs_in rest) id ≡ get (get_or rest j d).0 id)
          → get (e ∷ es ++ pairs_in rest) id ≡ get (get_or ((e ∷ es, n) ∷ rest) m d).0 id
      in_this zero here ih = get_first (e ∷ es) rest id next filled.1 here
      in_this (suc j) there ih = ih j there

      go : (b : Bool) → is_lt (id_cmp id e.0) ≡ b → (if not b then 1 + blocks_by id rest else 0) ≡ suc k
          → ((j : ℕ) → blocks_by id rest ≡ suc j → get (e ∷ es ++ pairs_in rest) id ≡ get (get_or rest j d).0 id)
          → get (xs ++ (e ∷ es ++ pairs_in rest)) id ≡ get (get_or ((e ∷ es, n) ∷ rest) k d).0 id
      go true is h ih = absurd (omega (arith, h))
      go false is h ih =
          let behind : blocks_by id rest ≡ k = omega (arith, h) in
          get-past xs (e ∷ es ++ pairs_in rest) id (below_start xs e (es ++ pairs_in rest) id rising is) ∙ in_this k behind ih

  -- so is an id that some block has
  pub contains_first : (xs : List (Id × X)) (rest : List (List (Id × X) × ℕ)) (id : Id) → IsAscending (xs ++ pairs_in rest) → AreNonEmpty rest
      → blocks_by id rest ≡ 0 → contains (xs ++ pairs_in rest) id ≡ contains xs id
  contains_first xs rest id rising filled none =
      contains-get (xs ++ pairs_in rest) id ∙ ap is_some (get_first xs rest id rising filled none) ∙ sym (contains-get xs id)

  pub contains_rest : (xs : List (Id × X)) (rest : List (List (Id × X) × ℕ)) (id : Id) (k : ℕ) (d : List (Id × X) × ℕ)
      → IsAscending (xs ++ pairs_in rest) → AreNonEmpty rest → blocks_by id rest ≡ suc k
      → contains (xs ++ pairs_in rest) id ≡ contains (get_or rest k d).0 id
  contains_rest xs rest id k d rising filled some =
      contains-get (xs ++ pairs_in rest) id ∙ ap is_some (get_rest xs rest id k d rising filled some) ∙ sym (contains-get (get_or rest k d).0 id)

  start_above : (blocks : List (List (Id × X) × ℕ)) (id i : Id) (j : ℕ) (d : List (Id × X) × ℕ) → AreNonEmpty blocks
      → ((y : Id × X) → Contains (pairs_in blocks) y → id_cmp i y.0 ≡ Less) → j < length blocks
      → starts_by id (get_or blocks j d).0 ≡ true → is_lt (id_cmp id i) ≡ false
  start_above [] id i j d filled above within starts = absurd (omega (arith, within))
  start_above (([], n) ∷ blocks) id i j d filled above within starts = absurd (true≢false (sym filled.0))
  start_above ((e ∷ es, n) ∷ blocks) id i zero d filled above within starts =
      not_less_back id_order i id (less_le i e.0 id (above e (Contains-here (es ++ pairs_in blocks) refl)) (not_true (is_lt (id_cmp id e.0)) starts))
  start_above ((e ∷ es, n) ∷ blocks) id i (suc j) d filled above within starts =
      start_above blocks id i j d filled.1 (λ y c. above y (Contains-append_right (e ∷ es) (pairs_in blocks) y c)) (omega (arith, within)) starts

  -- these blocks come first, so bisection finds how many they are
  pub starts_first : (blocks : List (List (Id × X) × ℕ)) (id : Id) → AreNonEmpty blocks → IsAscending (pairs_in blocks) → IsPartitionedBy (λ b. starts_by id b.0) blocks
  starts_first [] id filled rising i j d le within starts = absurd (omega (arith, within))
  starts_first (b ∷ blocks) id filled rising zero zero d le within starts = starts
  starts_first (([], n) ∷ blocks) id filled rising zero (suc j) d le within starts = absurd (true≢false (sym filled.0))
  starts_first ((e ∷ es, n) ∷ blocks) id filled rising zero (suc j) d le within starts =
      ap not (start_above blocks id e.0 j d filled.1 (λ y c. rising.0 y (Contains-append_right es (pairs_in blocks) y c)) (omega (arith, within)) starts)
  starts_first (b ∷ blocks) id filled rising (suc i) zero d le within starts = absurd (omega (arith, le))
  starts_first (b ∷ blocks) id filled rising (suc i) (suc j) d le within starts =
      starts_first blocks id filled.1 (rising_parts b.0 (pairs_in blocks) rising).1 i j d (omega (arith, le)) (omega (arith, within)) starts

  pub blocks_by_is : (blocks : List (List (Id × X) × ℕ)) (id : Id) (n : ℕ) → n ≤ length blocks
      → IsPartitionPoint (λ b. starts_by id b.0 ≡ true) (λ b. starts_by id b.0 ≡ false) blocks n → n ≡ blocks_by id blocks
  blocks_by_is [] id n within point = omega (arith, within)
  blocks_by_is (b ∷ blocks) id n within point =
      sym (prefix_len_is (λ z. starts_by id z.0) (b ∷ blocks) n b within (λ k below. point.0 k b (omega (arith, below, within)) below) (λ inside. point.1 n b (omega arith) inside))

  -- ---- what is kept of blocks

  pub room_at : (blocks : List (List (Id × X) × ℕ)) (k : ℕ) (d : List (Id × X) × ℕ) → AllHaveRoom blocks → k < length blocks → HasSpareRoom (get_or blocks k d)
  room_at [] k d room within = absurd (omega (arith, within))
  room_at (b ∷ blocks) zero d room within = room.0
  room_at (b ∷ blocks) (suc k) d room within = room_at blocks k d room.1 (omega (arith, within))

  pub filled-set : (blocks : List (List (Id × X) × ℕ)) (k : ℕ) (b : List (Id × X) × ℕ) → AreNonEmpty blocks → has_pair b.0 ≡ true → AreNonEmpty (set blocks k b)
  filled-set [] k b filled has = tt
  filled-set (c ∷ blocks) zero b filled has = (has, filled.1)
  filled-set (c ∷ blocks) (suc k) b filled has = (filled.0, filled-set blocks k b filled.1 has)

  -- ---- a clearing

  pub uncovered-append : (front : List (List ℕ × ℕ)) (xs ys : List (Id × X)) → uncovered front (xs ++ ys) ≡ uncovered front xs ++ uncovered front ys
  uncovered-append front [] ys = refl
  uncovered-append front (e ∷ xs) ys = go (not (covers front e.0)) (uncovered-append front xs ys)
    where
      go : (b : Bool) → uncovered front (xs ++ ys) ≡ uncovered front xs ++ uncovered front ys
          → (if b then e ∷ uncovered front (xs ++ ys) else uncovered front (xs ++ ys)) ≡ (if b then e ∷ uncovered front xs else uncovered front xs) ++ uncovered front ys
      go true ih = ap (λ l. e ∷ l) ih
      go false ih = ih

  pairs_in-uncovered : (front : List (List ℕ × ℕ)) (blocks : List (List (Id × X) × ℕ))
      → pairs_in (map (λ b. (uncovered front b.0, b.1)) blocks) ≡ uncovered front (pairs_in blocks)
  pairs_in-uncovered front [] = refl
  pairs_in-uncovered front (b ∷ blocks) = ap (λ l. uncovered front b.0 ++ l) (pairs_in-uncovered front blocks) ∙ sym (uncovered-append front b.0 (pairs_in blocks))

  pairs_in-filled : (blocks : List (List (Id × X) × ℕ)) → pairs_in (filter (λ b. has_pair b.0) blocks) ≡ pairs_in blocks
  pairs_in-filled [] = refl
  pairs_in-filled (([], n) ∷ blocks) = pairs_in-filled blocks
  pairs_in-filled ((e ∷ es, n) ∷ blocks) = ap (λ l. e ∷ es ++ l) (pairs_in-filled blocks)

  pub pairs_in-cleared : (front : List (List ℕ × ℕ)) (blocks : List (List (Id × X) × ℕ))
      → pairs_in (filter (λ b. has_pair b.0) (map (λ b. (uncovered front b.0, b.1)) blocks)) ≡ uncovered front (pairs_in blocks)
  pairs_in-cleared front blocks = pairs_in-filled (map (λ b. (uncovered front b.0, b.1)) blocks) ∙ pairs_in-uncovered front blocks

  pub filled-filled : (blocks : List (List (Id × X) × ℕ)) → AreNonEmpty (filter (λ b. has_pair b.0) blocks)
  filled-filled [] = tt
  filled-filled (([], n) ∷ blocks) = filled-filled blocks
  filled-filled ((e ∷ es, n) ∷ blocks) = (refl, filled-filled blocks)

  pub room-cleared : (front : List (List ℕ × ℕ)) (b : List (Id × X) × ℕ) → HasSpareRoom b → HasSpareRoom (uncovered front b.0, b.1)
  room-cleared front b room = omega (arith, room, length-uncovered front b.0)

  room-filled : (blocks : List (List (Id × X) × ℕ)) → AllHaveRoom blocks → AllHaveRoom (filter (λ b. has_pair b.0) blocks)
  room-filled [] room = tt
  room-filled (([], n) ∷ blocks) room = room-filled blocks room.1
  room-filled ((e ∷ es, n) ∷ blocks) room = (room.0, room-filled blocks room.1)

  room-each : (front : List (List ℕ × ℕ)) (blocks : List (List (Id × X) × ℕ)) → AllHaveRoom blocks → AllHaveRoom (map (λ b. (uncovered front b.0, b.1)) blocks)
  room-each front [] room = tt
  room-each front (b ∷ blocks) room = (room-cleared front b room.0, room-each front blocks room.1)

  pub rooms-cleared : (front : List (List ℕ × ℕ)) (blocks : List (List (Id × X) × ℕ)) → AllHaveRoom blocks
      → AllHaveRoom (filter (λ b. has_pair b.0) (map (λ b. (uncovered front b.0, b.1)) blocks))
  rooms-cleared front blocks room = room-filled (map (λ b. (uncovered front b.0, b.1)) blocks) (room-each front blocks room)

  -- ---- a cut: some blocks stand in place of one

  abbrev spliced : List (List (Id × X) × ℕ) → ℕ → List (List (Id × X) × ℕ) → List (List (Id × X) × ℕ)
  spliced [] n mid = []
  spliced (b ∷ blocks) zero mid = mid ++ blocks
  spliced (b ∷ blocks) (suc n) mid = b ∷ spliced blocks n mid

  set-spliced : (blocks : List (List (Id × X) × ℕ)) (n : ℕ) (b : List (Id × X) × ℕ) → set blocks n b ≡ spliced blocks n (b ∷ [])
  set-spliced [] n b = refl
  set-spliced (c ∷ blocks) zero b = refl
  set-spliced (c ∷ blocks) (suc n) b = ap (λ l. c ∷ l) (set-spliced blocks n b)

  insert-spliced : (blocks : List (List (Id × X) × ℕ)) (n : ℕ) (a b : List (Id × X) × ℕ) → n < length blocks
      → insert (set blocks n a) (suc n) b ≡ spliced blocks n (a ∷ b ∷ [])
  insert-spliced [] n a b within = absurd (omega (arith, within))
  insert-spliced (c ∷ blocks) zero a b within = refl
  insert-spliced (c ∷ blocks) (suc n) a b within = ap (λ l. c ∷ l) (insert-spliced blocks n a b (omega (arith, within)))

  second-spliced : (blocks : List (List (Id × X) × ℕ)) (n : ℕ) (a b c : List (Id × X) × ℕ) → n < length blocks
      → set (spliced blocks n (a ∷ b ∷ [])) (suc n) c ≡ spliced blocks n (a ∷ c ∷ [])
  second-spliced [] n a b c within = absurd (omega (arith, within))
  second-spliced (x ∷ blocks) zero a b c within = refl
  second-spliced (x ∷ blocks) (suc n) a b c within = ap (λ l. x ∷ l) (second-spliced blocks n a b c (omega (arith, within)))

  pairs_in-append : (xs ys : List (List (Id × X) × ℕ)) → pairs_in (xs ++ ys) ≡ pairs_in xs ++ pairs_in ys
  pairs_in-append [] ys = refl
  pairs_in-append (b ∷ xs) ys = ap (λ l. b.0 ++ l) (pairs_in-append xs ys) ∙ sym (append_assoc b.0 (pairs_in xs) (pairs_in ys))

  pairs_in-spliced : (blocks : List (List (Id × X) × ℕ)) (n : ℕ) (mid : List (List (Id × X) × ℕ)) (d : List (Id × X) × ℕ)
      → pairs_in mid ≡ (get_or blocks n d).0 → pairs_in (spliced blocks n mid) ≡ pairs_in blocks
  pairs_in-spliced [] n mid d is = refl
  pairs_in-spliced (b ∷ blocks) zero mid d is = pairs_in-append mid blocks ∙ ap (λ l. l ++ pairs_in blocks) is
  pairs_in-spliced (b ∷ blocks) (suc n) mid d is = ap (λ l. b.0 ++ l) (pairs_in-spliced blocks n mid d is)

  filled-append : (xs ys : List (List (Id × X) × ℕ)) → AreNonEmpty xs → AreNonEmpty ys → AreNonEmpty (xs ++ ys)
  filled-append [] ys f g = g
  filled-append (b ∷ xs) ys f g = (f.0, filled-append xs ys f.1 g)

  filled-spliced : (blocks : List (List (Id × X) × ℕ)) (n : ℕ) (mid : List (List (Id × X) × ℕ)) → AreNonEmpty blocks → AreNonEmpty mid → AreNonEmpty (spliced blocks n mid)
  filled-spliced [] n mid filled parts = tt
  filled-spliced (b ∷ blocks) zero mid filled parts = filled-append mid blocks parts filled.1
  filled-spliced (b ∷ blocks) (suc n) mid filled parts = (filled.0, filled-spliced blocks n mid filled.1 parts)

  drop-spliced : (blocks : List (List (Id × X) × ℕ)) (n : ℕ) (mid : List (List (Id × X) × ℕ)) → n < length blocks
      → drop n (spliced blocks n mid) ≡ mid ++ drop (suc n) blocks
  drop-spliced [] n mid within = absurd (omega (arith, within))
  drop-spliced (b ∷ blocks) zero mid within = refl
  drop-spliced (b ∷ blocks) (suc n) mid within = drop-spliced blocks n mid (omega (arith, within))

  pub split-rooms : (blocks : List (List (Id × X) × ℕ)) (at : ℕ) (a b c : List (Id × X) × ℕ) → at < length blocks → AllHaveRoom (drop (suc at) blocks) → HasSpareRoom a → HasSpareRoom c
      → AllHaveRoom (drop at (set (insert (set blocks at a) (suc at) b) (suc at) c))
  split-rooms blocks at a b c within later first second =
      subst (λ l. AllHaveRoom (drop at l)) (sym (ap (λ l. set l (suc at) c) (insert-spliced blocks at a b within) ∙ second-spliced blocks at a b c within))
      (subst AllHaveRoom (sym (drop-spliced blocks at (a ∷ c ∷ []) within)) (first, (second, later)))

  pub split-pairs_in : (blocks : List (List (Id × X) × ℕ)) (at : ℕ) (a b : List (Id × X) × ℕ) (d : List (Id × X) × ℕ) → at < length blocks
      → a.0 ++ b.0 ≡ (get_or blocks at d).0 → pairs_in (insert (set blocks at a) (suc at) b) ≡ pairs_in blocks
  split-pairs_in blocks at a b d within is =
      ap pairs_in (insert-spliced blocks at a b within)
      ∙ pairs_in-spliced blocks at (a ∷ b ∷ []) d (ap (λ l. a.0 ++ l) (append-nil b.0) ∙ is)

  pub split-filled : (blocks : List (List (Id × X) × ℕ)) (at : ℕ) (a b : List (Id × X) × ℕ) → at < length blocks → AreNonEmpty blocks → has_pair a.0 ≡ true → has_pair b.0 ≡ true
      → AreNonEmpty (insert (set blocks at a) (suc at) b)
  split-filled blocks at a b within filled one two =
      subst AreNonEmpty (sym (insert-spliced blocks at a b within)) (filled-spliced blocks at (a ∷ b ∷ []) filled (one, (two, tt)))

  pub split-length : (blocks : List (List (Id × X) × ℕ)) (at : ℕ) (a b : List (Id × X) × ℕ) → at < length blocks → length (insert (set blocks at a) (suc at) b) ≡ suc (length blocks)
  split-length [] at a b within = absurd (omega (arith, within))
  split-length (c ∷ blocks) zero a b within = refl
  split-length (c ∷ blocks) (suc at) a b within = ap suc (split-length blocks at a b (omega (arith, within)))

  -- a block that grows
  pub grown-pairs_in : (blocks : List (List (Id × X) × ℕ)) (at : ℕ) (b d : List (Id × X) × ℕ) → b.0 ≡ (get_or blocks at d).0 → pairs_in (set blocks at b) ≡ pairs_in blocks
  grown-pairs_in blocks at b d is = ap pairs_in (set-spliced blocks at b) ∙ pairs_in-spliced blocks at (b ∷ []) d (append-nil b.0 ∙ is)

  pub grown-filled : (blocks : List (List (Id × X) × ℕ)) (at : ℕ) (b d : List (Id × X) × ℕ) → at < length blocks → b.0 ≡ (get_or blocks at d).0 → AreNonEmpty blocks → AreNonEmpty (set blocks at b)
  grown-filled blocks at b d within is filled = filled-set blocks at b filled (ap has_pair is ∙ filled_at blocks at d within filled)
    where
      filled_at : (blocks : List (List (Id × X) × ℕ)) (k : ℕ) (d : List (Id × X) × ℕ) → k < length blocks → AreNonEmpty blocks → has_pair (get_or blocks k d).0 ≡ true
      filled_at [] k d within filled = absurd (omega (arith, within))
      filled_at (b ∷ blocks) zero d within filled = filled.0
      filled_at (b ∷ blocks) (suc k) d within filled = filled_at blocks k d (omega (arith, within)) filled.1

  pub grown-rooms : (blocks : List (List (Id × X) × ℕ)) (at : ℕ) (b : List (Id × X) × ℕ) → at < length blocks → AllHaveRoom (drop (suc at) blocks) → HasSpareRoom b → AllHaveRoom (drop at (set blocks at b))
  grown-rooms blocks at b within later room =
      subst (λ l. AllHaveRoom (drop at l)) (sym (set-spliced blocks at b)) (subst AllHaveRoom (sym (drop-spliced blocks at (b ∷ []) within)) (room, later))

  pub rooms-on : (blocks : List (List (Id × X) × ℕ)) (at : ℕ) (d : List (Id × X) × ℕ) → at < length blocks → HasSpareRoom (get_or blocks at d) → AllHaveRoom (drop (suc at) blocks) → AllHaveRoom (drop at blocks)
  rooms-on [] at d within room later = absurd (omega (arith, within))
  rooms-on (b ∷ blocks) zero d within room later = (room, later)
  rooms-on (b ∷ blocks) (suc at) d within room later = rooms-on blocks at d (omega (arith, within)) room later

  -- ---- all but one block have room

  pub rooms-drop : (n : ℕ) (blocks : List (List (Id × X) × ℕ)) → AllHaveRoom blocks → AllHaveRoom (drop n blocks)
  rooms-drop zero blocks room = room
  rooms-drop (suc n) [] room = tt
  rooms-drop (suc n) (b ∷ blocks) room = rooms-drop n blocks room.1

  pub rooms-take : (n : ℕ) (blocks : List (List (Id × X) × ℕ)) → AllHaveRoom blocks → AllHaveRoom (take n blocks)
  rooms-take zero blocks room = tt
  rooms-take (suc n) [] room = tt
  rooms-take (suc n) (b ∷ blocks) room = (room.0, rooms-take n blocks room.1)

  pub rooms-whole : (n : ℕ) (blocks : List (List (Id × X) × ℕ)) → AllHaveRoom (take n blocks) → AllHaveRoom (drop n blocks) → AllHaveRoom blocks
  rooms-whole zero blocks earlier later = later
  rooms-whole (suc n) [] earlier later = tt
  rooms-whole (suc n) (b ∷ blocks) earlier later = (earlier.0, rooms-whole n blocks earlier.1 later)

  -- once a block is written, each other has the room that it had
  pub rooms-but : (first : List (Id × X) × ℕ) (blocks : List (List (Id × X) × ℕ)) (at : ℕ) (b : List (Id × X) × ℕ)
      → HasSpareRoom first → AllHaveRoom blocks → at < length blocks → HaveRoomBut (InRest at) first (set blocks at b)
  rooms-but first blocks at b room all within = (
    room,
    subst (λ n. at < n) (sym (length-set blocks at b)) within,
    subst AllHaveRoom (sym (take-set blocks at b)) (rooms-take at blocks all),
    subst AllHaveRoom (sym (drop-set-lt (suc at) blocks at b (omega arith))) (rooms-drop (suc at) blocks all),
  )

  -- where blocks go and others take nothing, room is known as far as it was everywhere
  pub rooms-settled : (has_room : Bool) (lack : Lack) (first new : List (Id × X) × ℕ) (blocks more : List (List (Id × X) × ℕ)) → HaveRoomFor has_room lack first blocks
      → (HasSpareRoom first → HasSpareRoom new) → (AllHaveRoom blocks → AllHaveRoom more) → HaveRoomFor has_room Anywhere new more
  rooms-settled true lack first new blocks more room one all = (one room.0, all room.1)
  rooms-settled false lack first new blocks more room one all = tt

  -- both parts of a cut have pairs
  pub low_has : (n : ℕ) (xs : List (Id × X)) → 0 < n → n < length xs → has_pair (take n xs) ≡ true
  low_has zero xs some inside = absurd (omega (arith, some))
  low_has (suc n) [] some inside = absurd (omega (arith, inside))
  low_has (suc n) (x ∷ xs) some inside = refl

  pub high_has : (n : ℕ) (xs : List (Id × X)) → n < length xs → has_pair (drop n xs) ≡ true
  high_has zero [] inside = absurd (omega (arith, inside))
  high_has zero (x ∷ xs) inside = refl
  high_has (suc n) [] inside = absurd (omega (arith, inside))
  high_has (suc n) (x ∷ xs) inside = high_has n xs (omega (arith, inside))

  -- nothing stands where there is no pair
  pub pairs_in-nil : (xs : List (Id × X)) (blocks : List (List (Id × X) × ℕ)) → AreNonEmpty blocks → xs ++ pairs_in blocks ≡ [] → (xs ≡ []) × (blocks ≡ [])
  pairs_in-nil [] [] filled none = (refl, refl)
  pairs_in-nil [] (([], n) ∷ blocks) filled none = absurd (true≢false (sym filled.0))
  pairs_in-nil [] ((e ∷ es, n) ∷ blocks) filled none = absurd (cc)
  pairs_in-nil (x ∷ xs) blocks filled none = absurd (cc)

-- one more element mapped in place
module _ {A : Type 0} (f : A → A) where
  pub mapped-next : (xs : List A) (i : ℕ) (d : A) → i < length xs
      → set (map f (take i xs) ++ drop i xs) i (f (get_or (map f (take i xs) ++ drop i xs) i d)) ≡ map f (take (suc i) xs) ++ drop (suc i) xs
  mapped-next [] i d within = absurd (omega (arith, within))
  mapped-next (x ∷ xs) zero d within = refl
  mapped-next (x ∷ xs) (suc i) d within = ap (λ l. f x ∷ l) (mapped-next xs i d (omega (arith, within)))

  pub mapped-all : (xs : List A) (i : ℕ) → length xs ≤ i → map f (take i xs) ++ drop i xs ≡ map f xs
  mapped-all [] zero h = refl
  mapped-all [] (suc i) h = refl
  mapped-all (x ∷ xs) zero h = absurd (omega (arith, h))
  mapped-all (x ∷ xs) (suc i) h = ap (λ l. f x ∷ l) (mapped-all xs i (omega (arith, h)))

module _ {X : Type 0} where
  pub get-set : (blocks : List (List (Id × X) × ℕ)) (n : ℕ) (b d : List (Id × X) × ℕ) → n < length blocks → get_or (set blocks n b) n d ≡ b
  get-set [] n b d within = absurd (omega (arith, within))
  get-set (c ∷ blocks) zero b d within = refl
  get-set (c ∷ blocks) (suc n) b d within = get-set blocks n b d (omega (arith, within))

  pub take-short : (n : ℕ) (xs : List (Id × X)) → length (take n xs) ≤ n
  take-short zero xs = omega arith
  take-short (suc n) [] = omega arith
  take-short (suc n) (x ∷ xs) = let on = take-short n xs in omega (arith, on)

-- where a list's length is zero nothing stands in it
module _ {A : Type 0} where
  pub nil_is : (xs : List A) → xs ≡ [] → (length xs == 0) ≡ true
  nil_is xs e = let none : (length {A = A} [] == 0) ≡ true = grind (arith, nat_tests) in ap (λ l. length l == 0) e ∙ none
