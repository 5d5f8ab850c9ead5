-- Blocks that are gone, and what stays where that changes.
use Rattle.std.proofs.Common.{◌≡◌, ℕ, zero, suc, ◌<◌, ◌≤◌, ◌+◌, List, [], ◌∷◌, ◌++◌, append-nil, append_assoc, length, get_or, set, take, drop, Contains, Bool, true, false, if◌then◌else◌, ◌⊎◌, inl, inr, ⊎_elim, refl, sym, ap, ◌∙◌, subst, true≢false, arith}
use Rattle.std.specs.Prelude.{insert, is_some, IfSome, Option, Some, None}
use Rattle.std.proofs.lemmas.Bool.{cases_eq, cases_lt}
use Rattle.std.proofs.lemmas.List.{set_past, get_or_past, get_or_append_left, get_or-set_same, get_or-set_other, take-append-drop}
use Rattle.std.proofs.lemmas.List.Elements.{Contains-append_left, Contains-append_right, Contains-append_cases}
use Rattle.op_core.specs.declared.cursor.Key.{Key}
use Rattle.list_laws.proofs.Members.{Contains-nil}
use Rattle.key_map.specs.Blocks.{joined, but_gone, repeated, AreBlocks, block_rank}
use Rattle.key_map.specs.ByKey.{at_key}
use Rattle.key_map.proofs.ByKeyLaws.{at_key-own, at_key-Contains}
use Rattle.key_map.specs.KeyOrder.{IsInKeyOrder}
use Rattle.key_map.proofs.BlockLaws.{rising_parts, rising_at, joined-cut, joined-Contains, at_key-block, at_key-past}

-- one is not gone any more
pub not_gone : (gone : List Bool) (n : ℕ) → get_or (set gone n false) n false ≡ false
not_gone gone n = ⊎_elim
    (λ within. get_or-set_same gone n false false within)
    (λ past. ap (λ l. get_or l n false) (set_past gone n false past) ∙ get_or_past gone n false past)
    (cases_lt n (length gone))

pub less_gone : (gone : List Bool) (n m : ℕ) → get_or (set gone n false) m false ≡ true → get_or gone m false ≡ true
less_gone gone n m is = ⊎_elim
    (λ same. absurd (true≢false (sym is ∙ ap (λ z. get_or (set gone n false) z false) same ∙ not_gone gone n)))
    (λ apart. sym (get_or-set_other gone n m false false apart) ∙ is)
    (cases_eq m n)

pub repeated_past : (gone : List Bool) (n : ℕ) → length gone ≤ n → gone ≡ repeated gone n
repeated_past [] n past = refl
repeated_past (g ∷ gone) zero past = absurd (omega (arith, past))
repeated_past (g ∷ gone) (suc n) past = ap (λ l. g ∷ l) (repeated_past gone n (omega (arith, past)))

pub repeated_inside : (gone : List Bool) (n : ℕ) → n < length gone → insert gone (n + 1) (get_or gone n false) ≡ repeated gone n
repeated_inside gone n within = let one : n + 1 ≡ suc n = omega arith in rw one (go gone n within)
  where
    go : (fs : List Bool) (m : ℕ) → m < length fs → insert fs (suc m) (get_or fs m false) ≡ repeated fs m
    go [] m inside = absurd (omega (arith, inside))
    go (g ∷ fs) zero inside = refl
    go (g ∷ fs) (suc m) inside = ap (λ l. g ∷ l) (go fs m (omega (arith, inside)))

module _ {V : Type 0} where
  nothing : (b : Bool) → ◌≡◌ {A = List (Key × V)} [] (if b then [] else [])
  nothing true = refl
  nothing false = refl

  pub get_or-but_gone : (gone : List Bool) (blocks : List (List (Key × V))) (m : ℕ)
      → get_or (but_gone gone blocks) m [] ≡ (if get_or gone m false then [] else get_or blocks m [])
  get_or-but_gone [] blocks m = refl
  get_or-but_gone (g ∷ gone) [] m = nothing (get_or (g ∷ gone) m false)
  get_or-but_gone (g ∷ gone) (block ∷ blocks) zero = refl
  get_or-but_gone (g ∷ gone) (block ∷ blocks) (suc m) = get_or-but_gone gone blocks m

  pub length-but_gone : (gone : List Bool) (blocks : List (List (Key × V))) → length (but_gone gone blocks) ≡ length blocks
  length-but_gone [] blocks = refl
  length-but_gone (g ∷ gone) [] = refl
  length-but_gone (g ∷ gone) (block ∷ blocks) = ap suc (length-but_gone gone blocks)

  -- what is in all blocks is in one of them
  pub record IsInBlock (blocks : List (List (Key × V))) (e : Key × V) : Type 0 where
    pub block : ℕ
    pub has : Contains (get_or blocks block []) e

  pub in_block : (blocks : List (List (Key × V))) (e : Key × V) → Contains (joined blocks) e → IsInBlock blocks e
  in_block [] e c = absurd (Contains-nil c)
  in_block (block ∷ blocks) e c = ⊎_elim
      (λ here. record { block = 0; has = here })
      (λ there. let rest = in_block blocks e there in record { block = suc rest.block; has = rest.has })
      (Contains-append_cases block (joined blocks) e c)

  -- a block that has something is one of them
  pub block_within : (blocks : List (List (Key × V))) (n : ℕ) (e : Key × V) → Contains (get_or blocks n []) e → n < length blocks
  block_within blocks n e there = ⊎_elim
      (λ less. less)
      (λ past. absurd (Contains-nil (subst (λ l. Contains l e) (get_or_past blocks n [] past) there)))
      (cases_lt n (length blocks))

  pub in_joined : (blocks : List (List (Key × V))) (n : ℕ) (e : Key × V) → Contains (get_or blocks n []) e → Contains (joined blocks) e
  in_joined blocks n e there = joined-Contains blocks n e (block_within blocks n e there) there

  -- where each block keeps what it has, all do
  pub kept_by : (old new : List (List (Key × V))) (e : Key × V)
      → ((m : ℕ) → Contains (get_or old m []) e → Contains (get_or new m []) e) → Contains (joined old) e → Contains (joined new) e
  kept_by old new e kept c = let at = in_block old e c in in_joined new at.block e (kept at.block at.has)

  pub unless : (b c : Bool) (X Y : List (Key × V)) (e : Key × V) → (c ≡ true → b ≡ true) → (Contains X e → Contains Y e)
      → Contains (if b then [] else X) e → Contains (if c then [] else Y) e
  unless true c X Y e fewer more there = absurd (Contains-nil there)
  unless false true X Y e fewer more there = absurd (true≢false (sym (fewer refl)))
  unless false false X Y e fewer more there = more there

  -- fewer are gone, or blocks have more
  pub but_gone-kept : (gone fewer : List Bool) (old new : List (List (Key × V))) (e : Key × V)
      → ((m : ℕ) → get_or fewer m false ≡ true → get_or gone m false ≡ true)
      → ((m : ℕ) → Contains (get_or old m []) e → Contains (get_or new m []) e)
      → Contains (joined (but_gone gone old)) e → Contains (joined (but_gone fewer new)) e
  but_gone-kept gone fewer old new e less more =
      kept_by (but_gone gone old) (but_gone fewer new) e
      (λ m there. subst (λ l. Contains l e) (sym (get_or-but_gone fewer new m))
      (unless (get_or gone m false) (get_or fewer m false) (get_or old m []) (get_or new m []) e (less m) (more m)
      (subst (λ l. Contains l e) (get_or-but_gone gone old m) there)))

  -- one is told of
  pub but_gone-told : (gone : List Bool) (blocks : List (List (Key × V))) → but_gone (gone ++ false ∷ []) blocks ≡ but_gone gone blocks
  but_gone-told [] [] = refl
  but_gone-told [] (block ∷ blocks) = refl
  but_gone-told (g ∷ gone) [] = refl
  but_gone-told (g ∷ gone) (block ∷ blocks) = ap (λ l. (if g then [] else block) ∷ l) (but_gone-told gone blocks)

  -- a block is put into one, or behind all
  pub more_in : (blocks : List (List (Key × V))) (n : ℕ) (block : List (Key × V)) (e : Key × V) → n < length blocks
      → (Contains (get_or blocks n []) e → Contains block e) → (m : ℕ) → Contains (get_or blocks m []) e → Contains (get_or (set blocks n block) m []) e
  more_in blocks n block e within more m there = ⊎_elim
      (λ same. subst (λ l. Contains l e) (sym (ap (λ z. get_or (set blocks n block) z []) same ∙ get_or-set_same blocks n block [] within))
      (more (subst (λ z. Contains (get_or blocks z []) e) same there)))
      (λ apart. subst (λ l. Contains l e) (sym (get_or-set_other blocks n m block [] apart)) there)
      (cases_eq m n)

  pub more_behind : (blocks : List (List (Key × V))) (block : List (Key × V)) (e : Key × V) (m : ℕ)
      → Contains (get_or blocks m []) e → Contains (get_or (blocks ++ block ∷ []) m []) e
  more_behind blocks block e m there = ⊎_elim
      (λ less. subst (λ l. Contains l e) (sym (get_or_append_left blocks (block ∷ []) [] m less)) there)
      (λ past. absurd (Contains-nil (subst (λ l. Contains l e) (get_or_past blocks m [] past) there)))
      (cases_lt m (length blocks))

  -- a block is cut in two
  pub but_gone-cut : (gone : List Bool) (blocks : List (List (Key × V))) (n h : ℕ) → n < length blocks
      → joined (but_gone (repeated gone n) (insert (set blocks n (take h (get_or blocks n []))) (n + 1) (drop h (get_or blocks n []))))
      ≡ joined (but_gone gone blocks)
  but_gone-cut gone blocks n h within = let one : n + 1 ≡ suc n = omega arith in rw one (go gone blocks n within)
    where
      both : (g : Bool) (b : List (Key × V)) (rest : List (Key × V))
          → (if g then [] else take h b) ++ ((if g then [] else drop h b) ++ rest) ≡ (if g then [] else b) ++ rest
      both true b rest = refl
      both false b rest = sym (append_assoc (take h b) (drop h b) rest) ∙ ap (λ (l : List (Key × V)). l ++ rest) (take-append-drop h b)

      go : (fs : List Bool) (bs : List (List (Key × V))) (m : ℕ) → m < length bs
          → joined (but_gone (repeated fs m) (insert (set bs m (take h (get_or bs m []))) (suc m) (drop h (get_or bs m [])))) ≡ joined (but_gone fs bs)
      go fs [] m inside = absurd (omega (arith, inside))
      go [] (b ∷ bs) m inside = let one : suc m ≡ m + 1 = omega arith in rw one (joined-cut (b ∷ bs) m h inside)
      go (g ∷ fs) (b ∷ bs) zero inside = both g b (joined (but_gone fs bs))
      go (g ∷ fs) (b ∷ bs) (suc m) inside = ap (λ (l : List (Key × V)). (if g then [] else b) ++ l) (go fs bs m (omega (arith, inside)))

  -- what is not gone is there
  pub some_of : (gone : List Bool) (blocks : List (List (Key × V))) (e : Key × V) → Contains (joined (but_gone gone blocks)) e → Contains (joined blocks) e
  some_of gone blocks e =
      kept_by (but_gone gone blocks) blocks e
      (λ m there. of (get_or gone m false) (get_or blocks m []) (subst (λ l. Contains l e) (get_or-but_gone gone blocks m) there))
    where
      of : (g : Bool) (X : List (Key × V)) → Contains (if g then [] else X) e → Contains X e
      of true X there = absurd (Contains-nil there)
      of false X there = there

  -- what rises still does
  module _ (block more fewer : List (Key × V)) (some : (e : Key × V) → Contains fewer e → Contains more e) where
    pub rising_fewer : IsInKeyOrder (block ++ more) → IsInKeyOrder fewer → IsInKeyOrder (block ++ fewer)
    rising_fewer rising rest = go block rising
      where
        go : (b : List (Key × V)) → IsInKeyOrder (b ++ more) → IsInKeyOrder (b ++ fewer)
        go [] r = rest
        go (x ∷ b) r = (
          λ y c. ⊎_elim
              (λ here. r.0 y (Contains-append_left b more y here))
              (λ there. r.0 y (Contains-append_right b more y (some y there)))
              (Contains-append_cases b fewer y c),
          go b r.1,
        )

  pub rising-but_gone : (gone : List Bool) (blocks : List (List (Key × V))) → IsInKeyOrder (joined blocks) → IsInKeyOrder (joined (but_gone gone blocks))
  rising-but_gone [] blocks rising = rising
  rising-but_gone (g ∷ gone) [] rising = rising
  rising-but_gone (g ∷ gone) (block ∷ blocks) rising =
      of g (rising-but_gone gone blocks (rising_parts block (joined blocks) rising).1)
    where
      of : (b : Bool) → IsInKeyOrder (joined (but_gone gone blocks)) → IsInKeyOrder ((if b then [] else block) ++ joined (but_gone gone blocks))
      of true rest = rest
      of false rest = rising_fewer block (joined blocks) (joined (but_gone gone blocks)) (λ e c. some_of gone blocks e c) rising rest

  pub rising_or_none : (blocks : List (List (Key × V))) → IsInKeyOrder (joined blocks) → (n : ℕ) → IsInKeyOrder (get_or blocks n [])
  rising_or_none blocks rising n = ⊎_elim
      (λ less. rising_at blocks rising n [] less)
      (λ past. subst IsInKeyOrder (sym (get_or_past blocks n [] past)) tt)
      (cases_lt n (length blocks))

  -- the block of a key
  module _ (blocks : List (List (Key × V))) (are : AreBlocks blocks) (key : Key) where
    pub hinted : (n : ℕ) (r : Option V) → is_some r ≡ true → IfSome r (λ m. Contains (get_or blocks n []) (key, m))
        → (c : V) → at_key (joined blocks) key ≡ Some c → Contains (get_or blocks n []) (key, c)
    hinted n None some there c e = absurd (true≢false (sym some))
    hinted n (Some m) some there c e =
        let both : ◌≡◌ {A = Option V} (Some m) (Some c) = sym (at_key-own (joined blocks) are.rising (key, m) (in_joined blocks n (key, m) there)) ∙ e in
        let same : m ≡ c = cc in
        subst (λ z. Contains (get_or blocks n []) (key, z)) same there

    pub ranked : (c : V) → at_key (joined blocks) key ≡ Some c → Contains (get_or blocks (block_rank key blocks) []) (key, c)
    ranked c e = ⊎_elim
        (λ less. at_key-Contains (get_or blocks (block_rank key blocks) []) key c (sym (at_key-block key blocks are less) ∙ e))
        (λ past. let void : ◌≡◌ {A = Option V} None (Some c) = sym (at_key-past key blocks are past) ∙ e in absurd (cc))
        (cases_lt (block_rank key blocks) (length blocks))

  pub block_part : (gone : List Bool) (blocks : List (List (Key × V))) (m : ℕ) (e : Key × V) → Contains (get_or blocks m []) e
      → Contains (get_or (but_gone gone blocks) m []) e ⊎ (get_or (but_gone gone blocks) m [] ≡ [])
  block_part gone blocks m e there = of (get_or gone m false) (get_or-but_gone gone blocks m)
    where
      of : (b : Bool) → get_or (but_gone gone blocks) m [] ≡ (if b then [] else get_or blocks m []) → Contains (get_or (but_gone gone blocks) m []) e ⊎ (get_or (but_gone gone blocks) m [] ≡ [])
      of true is = inr is
      of false is = inl (subst (λ l. Contains l e) (sym is) there)

  pub noted_at : (gone : List Bool) (blocks : List (List (Key × V))) (m : ℕ) (e : Key × V) → get_or gone m false ≡ false
      → Contains (get_or blocks m []) e → Contains (joined (but_gone gone blocks)) e
  noted_at gone blocks m e isnt there =
      in_joined (but_gone gone blocks) m e
      (subst (λ l. Contains l e) (sym (get_or-but_gone gone blocks m ∙ ap (λ (b : Bool). if b then [] else get_or blocks m []) isnt)) there)

  -- one more block
  pub taken-more : (blocks : List (List (Key × V))) (n : ℕ) → n < length blocks
      → joined (take n blocks) ++ get_or blocks n [] ≡ joined (take (n + 1) blocks)
  taken-more blocks n within = let one : n + 1 ≡ suc n = omega arith in rw one (go blocks n within)
    where
      go : (bs : List (List (Key × V))) (m : ℕ) → m < length bs → joined (take m bs) ++ get_or bs m [] ≡ joined (take (suc m) bs)
      go [] m inside = absurd (omega (arith, inside))
      go (b ∷ bs) zero inside = sym (append-nil b)
      go (b ∷ bs) (suc m) inside = append_assoc b (joined (take m bs)) (get_or bs m []) ∙ ap (λ l. b ++ l) (go bs m (omega (arith, inside)))
