-- Blocks that are cut along a path.
use Rattle.std.proofs.Common.{◌≡◌, ◌<◌, ◌≤◌, ◌+◌, ◌-◌, min, ℕ, zero, suc, List, [], ◌∷◌, ◌++◌, append_assoc, append-nil, length, length-append, set, length-set, Bool, true, false, ◌&&◌, eqb, eqb-true, eq-eqb, nat_le, if◌then◌else◌, Option, Some, None, inl, inr, refl, sym, ap, ◌∙◌, subst, true≢false, arith}
use Rattle.std.proofs.lemmas.Bool.{leb-true, leb-false}
use Rattle.std.proofs.Math.ListN.{get_or-append}
use Rattle.std.proofs.lemmas.List.{get_or_past}
use Rattle.std.proofs.Math.Seq.{get_or-append_seam}
use Rattle.list_order.specs.declared.slots.Slot.{Slot}
use Rattle.list_order.specs.declared.slots.SlotNumber.{SlotNumber}
use Rattle.list_order.specs.declared.marks.Mark.{Mark}
use Rattle.list_order.specs.declared.marks.MarkBlock.{MarkBlock}
use Rattle.list_order.specs.Slots.{slot_at, IsPath, slots_from, LinksEnd}
use Rattle.list_order.specs.Marks.{mark_at, block_at, no_block, count_where, is_marked_in, from_block, start_of, IsInBlockOrder, IsCounted, bit, set_block, IsAbove, IsClosed, IsMarked}
use Rattle.list_order.proofs.Scanning.{IsStep}
use Rattle.list_order.proofs.Paths.{path_from-path, walk_from_path, walk-None, length-path_from}
use Rattle.list_order.proofs.Counting.{Along, along, along-map, along-both, along-append, from-zero, count-later, rising-from, length-from, path-from, IsSameMark, not_other, less_of}
use Rattle.list_order.proofs.Same.{count-same, blocks-same, from-same, rising-same, count-append, count_within, from-none, count-none, start-append, rising-append, along-snoc}
use Rattle.list_order.proofs.Presence.{count-presence}
use Rattle.list_order.proofs.Apart.{apart_front, set_here, set_other, set_apart}

-- the blocks as far as the path was gone through
pub record IsPartlyCut (slots : List Slot) (first : Option SlotNumber) (before marks : List Mark) (blocks : List MarkBlock) (at : Option SlotNumber) (present least : ℕ) : Type 0 where
  pub done : List SlotNumber
  pub parts : slots_from slots first ≡ done ++ slots_from slots at
  pub same : (n : SlotNumber) → (mark_at marks n).is_present ≡ (mark_at before n).is_present
  pub len : length marks ≡ length before
  pub counted : IsCounted marks blocks done at
  pub within : Along (λ n. (mark_at marks n).block < suc (length blocks)) done
  pub rest : present ≡ count_where (is_marked_in (length blocks)) marks done
  pub above : Along (IsAbove slots marks blocks) done
  pub open_above : Along (λ n. (mark_at marks n).block ≡ length blocks → least ≤ (slot_at slots n).id.counter) done

kept : (marks new : List Mark) (top : ℕ) (path : List SlotNumber) → Along (IsSameMark marks new) path → Along (λ m. (mark_at marks m).block < top) path
    → Along (λ m. (mark_at new m).block < top) path
kept marks new top [] s a = tt
kept marks new top (m ∷ path) s a = (subst (λ x. x.block < top) (sym s.0) a.0, kept marks new top path s.1 a.1)

presence : (marks : List Mark) (n : SlotNumber) (block : ℕ) → n.0 < length marks → (m : SlotNumber) → (mark_at (set_block marks n block) m).is_present ≡ (mark_at marks m).is_present
presence marks n block within m = go (eqb m.0 n.0) refl
  where
    go : (b : Bool) → eqb m.0 n.0 ≡ b → (mark_at (set_block marks n block) m).is_present ≡ (mark_at marks m).is_present
    go true e =
        let here : m ≡ n = λ i. record { 0 = eqb-true m.0 n.0 e i } in
        ap (λ k. (mark_at (set_block marks n block) k).is_present) here
        ∙ ap (λ x. x.is_present) (set_here marks n (record { is_present = (mark_at marks n).is_present; block = block }) within)
        ∙ ap (λ k. (mark_at marks k).is_present) (sym here)
    go false e = ap (λ x. x.is_present) (set_other marks n (record { is_present = (mark_at marks n).is_present; block = block }) m (λ h. true≢false (sym (eq-eqb m.0 n.0 (ap (λ k. k.0) h)) ∙ e)))

lesser : (least a b : ℕ) → least ≤ b → min least a ≤ b
lesser least a b h = omega (arith, h)

bit_small : (b : Bool) → bit b ≤ 1
bit_small true = omega arith
bit_small false = omega arith

last_other : (marks : List Mark) (test : Mark → Bool) (path : List SlotNumber) (n : SlotNumber) → test (mark_at marks n) ≡ false
    → count_where test marks (path ++ n ∷ []) ≡ count_where test marks path
last_other marks test path n fails =
    let none : count_where test marks (n ∷ []) ≡ 0 = rw fails refl in
    omega (arith, count-append marks test path (n ∷ []), none)

last_marked : (marks : List Mark) (k : ℕ) (path : List SlotNumber) (n : SlotNumber) → (mark_at marks n).block ≡ k
    → count_where (is_marked_in k) marks (path ++ n ∷ []) ≡ count_where (is_marked_in k) marks path + bit (mark_at marks n).is_present
last_marked marks k path n is =
    let one : count_where (is_marked_in k) marks (n ∷ []) ≡ bit (mark_at marks n).is_present = rw (eq-eqb (mark_at marks n).block k is) (go (mark_at marks n).is_present) in
    count-append marks (is_marked_in k) path (n ∷ []) ∙ ap (λ m. count_where (is_marked_in k) marks path + m) one
  where
    go : (p : Bool) → (if p && true then 1 else 0) ≡ bit p
    go true = refl
    go false = refl

-- the path up to its first slot in block k or a later one
abbrev pub before_block : List Mark → ℕ → List SlotNumber → List SlotNumber
before_block marks k [] = []
before_block marks k (n ∷ path) = if nat_le k (mark_at marks n).block then [] else n ∷ before_block marks k path

module _ (marks : List Mark) (k : ℕ) where
  pub split : (path : List SlotNumber) → path ≡ before_block marks k path ++ from_block k marks path
  split [] = refl
  split (n ∷ path) = go (nat_le k (mark_at marks n).block) (split path)
    where
      go : (b : Bool) → path ≡ before_block marks k path ++ from_block k marks path
          → n ∷ path ≡ (if b then [] else n ∷ before_block marks k path) ++ (if b then n ∷ path else from_block k marks path)
      go true ih = refl
      go false ih = ap (λ l. n ∷ l) ih

  pub within_front : (path : List SlotNumber) → Along (λ n. (mark_at marks n).block < k) (before_block marks k path)
  within_front [] = tt
  within_front (n ∷ path) = go (nat_le k (mark_at marks n).block) refl (within_front path)
    where
      go : (b : Bool) → nat_le k (mark_at marks n).block ≡ b → Along (λ m. (mark_at marks m).block < k) (before_block marks k path)
          → Along (λ m. (mark_at marks m).block < k) (if b then [] else n ∷ before_block marks k path)
      go true e ih = tt
      go false e ih = (omega (arith, leb-false k (mark_at marks n).block e), ih)

  pub rising_front : (low : ℕ) (path : List SlotNumber) → IsInBlockOrder low marks path → IsInBlockOrder low marks (before_block marks k path)
  rising_front low [] h = tt
  rising_front low (n ∷ path) h = go (nat_le k (mark_at marks n).block) (rising_front (mark_at marks n).block path h.1)
    where
      go : (b : Bool) → IsInBlockOrder (mark_at marks n).block marks (before_block marks k path) → IsInBlockOrder low marks (if b then [] else n ∷ before_block marks k path)
      go true ih = tt
      go false ih = (h.0, ih)

-- where a block starts is found in what stands before a later one, or right behind it
start_front : (marks : List Mark) (j k : ℕ) → j < k → (path : List SlotNumber)
    → start_of None (from_block (suc j) marks path) ≡ start_of (start_of None (from_block k marks path)) (from_block (suc j) marks (before_block marks k path))
start_front marks j k less [] = refl
start_front marks j k less (n ∷ path) = go (nat_le k (mark_at marks n).block) refl (nat_le (suc j) (mark_at marks n).block) refl (start_front marks j k less path)
  where
    go : (b : Bool) → nat_le k (mark_at marks n).block ≡ b → (c : Bool) → nat_le (suc j) (mark_at marks n).block ≡ c
        → start_of None (from_block (suc j) marks path) ≡ start_of (start_of None (from_block k marks path)) (from_block (suc j) marks (before_block marks k path))
        → start_of None (if c then n ∷ path else from_block (suc j) marks path)
        ≡ start_of (start_of None (if b then n ∷ path else from_block k marks path)) (from_block (suc j) marks (if b then [] else n ∷ before_block marks k path))
    go true e true f ih = refl
    go true e false f ih = absurd (omega (arith, less, leb-true k (mark_at marks n).block e, leb-false (suc j) (mark_at marks n).block f))
    go false e true f ih = rw f refl
    go false e false f ih = rw f ih

module _ (slots : List Slot) (first : Option SlotNumber) (before : List Mark) where
  -- what stands in the blocks is cut
  begin_at : (blocks : List MarkBlock) (at : Option SlotNumber) (least : ℕ) → IsCounted before blocks (slots_from slots first) None
      → Along (IsAbove slots before blocks) (slots_from slots first) → slots_from slots at ≡ from_block (length blocks) before (slots_from slots first)
      → (0 < length blocks → at ≡ start_of None (from_block (length blocks) before (slots_from slots first)))
      → IsPartlyCut slots first before before blocks at 0 least
  begin_at blocks at least c above rest starts =
      let path : List SlotNumber = slots_from slots first in
      let done : List SlotNumber = before_block before (length blocks) path in
      let parts : path ≡ done ++ from_block (length blocks) before path = split before (length blocks) path in
      let within : Along (λ n. (mark_at before n).block < length blocks) done = within_front before (length blocks) path in
      record {
        done = done;
        parts = parts ∙ ap (λ l. done ++ l) (sym rest);
        same = λ n. refl;
        len = refl;
        counted = record {
          rising = rising_front before (length blocks) 0 path c.rising;
          counted = λ k h.
              c.counted k h
              ∙ ap (count_where (is_marked_in k) before) parts
              ∙ count-append before (is_marked_in k) done (from_block (length blocks) before path)
              ∙ ap (λ m. count_where (is_marked_in k) before done + m) (count-later before k (length blocks) (from_block (length blocks) before path) h (rising-from before (length blocks) 0 path c.rising))
              ∙ omega arith;
          ends = λ k h.
              c.ends k h
              ∙ start_front before k (length blocks) h path
              ∙ ap (λ o. start_of o (from_block (suc k) before done)) (sym (starts (omega (arith, h))));
        };
        within = along-map (λ n h. omega (arith, h)) done within;
        rest = sym (count-none before (length blocks) done within);
        above = (along-append (IsAbove slots before blocks) done (from_block (length blocks) before path) (subst (Along (IsAbove slots before blocks)) parts above)).0;
        open_above = along-map (λ n h e. absurd (omega (arith, h, e))) done within;
      }

  -- from the slot behind the last block on
  pub begin_cut : (blocks : List MarkBlock) (total : ℕ) (at : Option SlotNumber) (least : ℕ) → IsMarked slots first before blocks total
      → (length blocks ≡ 0 → at ≡ first) → (0 < length blocks → at ≡ (block_at blocks (length blocks - 1)).end)
      → LinksEnd slots at × IsPartlyCut slots first before before blocks at 0 least
  begin_cut blocks total at least m none last = go (length blocks) refl
    where
      path : List SlotNumber
      path = slots_from slots first

      go : (k : ℕ) → length blocks ≡ k → LinksEnd slots at × IsPartlyCut slots first before before blocks at 0 least
      go zero e =
          let here : at ≡ first = none e in (
            subst (LinksEnd slots) (sym here) m.walk,
            begin_at blocks at least m.counted m.above (ap (slots_from slots) here ∙ sym (from-zero before path) ∙ ap (λ m. from_block m before path) (sym e)) (λ h. absurd (omega (arith, e, h))),
          )
      go (suc k) e =
          let within : k < length blocks = omega (arith, e) in
          let before_last : length blocks - 1 ≡ k = omega (arith, e) in
          let here : at ≡ start_of None (from_block (length blocks) before path) =
          last (omega (arith, e)) ∙ ap (λ m. (block_at blocks m).end) before_last ∙ m.counted.ends k within ∙ ap (λ m. start_of None (from_block m before path)) (sym e) in
          let on : IsPath slots at (from_block (length blocks) before path) =
          subst (λ o. IsPath slots o (from_block (length blocks) before path)) (sym here) (path-from before slots (length blocks) first path m.walk.path) in
          let short : length (from_block (length blocks) before path) ≤ length slots = omega (arith, length-from before (length blocks) path, length-path_from slots first) in (
            walk_from_path slots at (from_block (length blocks) before path) on short,
            begin_at blocks at least m.counted m.above (path_from-path slots at (from_block (length blocks) before path) on short) (λ h. here),
          )

  module _ (walk : LinksEnd slots first) (marked : length before ≡ length slots) where
    pub put_in : (marks : List Mark) (blocks : List MarkBlock) (at : Option SlotNumber) (present least : ℕ) (n : SlotNumber)
        → IsPartlyCut slots first before marks blocks at present least → at ≡ Some n → IsStep slots at n
        → IsPartlyCut slots first before (set_block marks n (length blocks)) blocks (slot_at slots n).next (present + bit (mark_at marks n).is_present)
        (min least (slot_at slots n).id.counter)
    put_in marks blocks at present least n c is s =
        let mark : Mark = record { is_present = (mark_at marks n).is_present; block = length blocks } in
        let new : List Mark = set marks n.0 mark in
        let done : List SlotNumber = c.done in
        let parts : slots_from slots first ≡ done ++ n ∷ slots_from slots (slot_at slots n).next = c.parts ∙ ap (λ l. done ++ l) s.path in
        let inside : n.0 < length marks = omega (arith, s.within, c.len) in
        let here : mark_at new n ≡ mark = set_here marks n mark inside in
        let away = apart_front slots first done n (slots_from slots (slot_at slots n).next) (subst (λ l. IsPath slots first l) parts walk.path) in
        let same : Along (IsSameMark marks new) done = set_apart marks n mark done away in
        let block : (mark_at new n).block ≡ length blocks = ap (λ m. m.block) here in
        let present_here : (mark_at new n).is_present ≡ (mark_at marks n).is_present = ap (λ m. m.is_present) here in
        let within : Along (λ m. (mark_at new m).block < suc (length blocks)) done = kept marks new (suc (length blocks)) done same c.within in
        let in_none : (block_at blocks (mark_at new n).block).least_counter ≡ 0 =
        ap (λ j. (block_at blocks j).least_counter) block ∙ ap (λ b. b.least_counter) (get_or_past blocks (length blocks) no_block (omega arith)) in
        record {
          done = done ++ n ∷ [];
          parts = parts ∙ sym (append_assoc done (n ∷ []) (slots_from slots (slot_at slots n).next));
          same = λ m. presence marks n (length blocks) inside m ∙ c.same m;
          len = length-set marks n.0 mark ∙ c.len;
          counted = record {
            rising = rising-append new 0 done n (omega arith) (along-map (λ m h. omega (arith, h, block)) done within) (rising-same marks new 0 done (blocks-same marks new done same) c.counted.rising);
            counted = λ k h.
                c.counted.counted k h
                ∙ sym (count-same marks new (is_marked_in k) done same)
                ∙ sym (last_other new (is_marked_in k) done n (not_other k (mark_at new n).block (λ e. omega (arith, e, block)) (mark_at new n).is_present));
            ends = λ k h.
                c.counted.ends k h
                ∙ (λ i. start_of (is i) (sym (from-same marks new (suc k) done (blocks-same marks new done same)) i))
                ∙ sym (start-append new (suc k) (slot_at slots n).next n done (omega (arith, block)));
          };
          within = along-snoc new (λ m. (mark_at new m).block < suc (length blocks)) done n within (omega (arith, block));
          rest =
              let old = count-same marks new (is_marked_in (length blocks)) done same in
              let last = last_marked new (length blocks) done n block in
              omega (arith, c.rest, old, last, ap bit present_here);
          above =
              along-snoc new (IsAbove slots new blocks) done n
              (along-both {P = IsAbove slots marks blocks} {Q = IsSameMark marks new} {R = IsAbove slots new blocks} (λ m a e. subst (λ x. (block_at blocks x.block).least_counter ≤ (slot_at slots m).id.counter) (sym e) a) done c.above same)
              (omega (arith, in_none));
          open_above =
              along-snoc new (λ m. (mark_at new m).block ≡ length blocks → min least (slot_at slots n).id.counter ≤ (slot_at slots m).id.counter) done n
              (along-both {P = λ m. (mark_at marks m).block ≡ length blocks → least ≤ (slot_at slots m).id.counter} {Q = IsSameMark marks new}
              {R = λ m. (mark_at new m).block ≡ length blocks → min least (slot_at slots n).id.counter ≤ (slot_at slots m).id.counter} (λ m a e there.
              lesser least (slot_at slots n).id.counter (slot_at slots m).id.counter (a (ap (λ x. x.block) (sym e) ∙ there))) done c.open_above same)
              (λ there. omega arith);
        }

    -- no count is more than there are slots
    pub count_fits : (marks : List Mark) (blocks : List MarkBlock) (at : Option SlotNumber) (present least : ℕ) (n : SlotNumber)
        → IsPartlyCut slots first before marks blocks at present least → at ≡ Some n → IsStep slots at n → present + bit (mark_at marks n).is_present ≤ length slots
    count_fits marks blocks at present least n c is s =
        let one : bit (mark_at marks n).is_present ≤ 1 = bit_small (mark_at marks n).is_present in
        let parts : slots_from slots first ≡ c.done ++ n ∷ slots_from slots (slot_at slots n).next = c.parts ∙ ap (λ l. c.done ++ l) s.path in
        omega (arith, one, c.rest, count_within marks (is_marked_in (length blocks)) c.done, ap length parts, length-append c.done (n ∷ slots_from slots (slot_at slots n).next), length-path_from slots first)

  -- the open block is closed, or stays open
  pub close : (marks : List Mark) (blocks new : List MarkBlock) (at : Option SlotNumber) (present least left least_left : ℕ)
      → IsPartlyCut slots first before marks blocks at present least → IsClosed blocks new present least at left least_left
      → IsPartlyCut slots first before marks new at left least_left
  close marks blocks new at present least left least_left c (inr (same, rest, bound)) =
      subst (λ l. IsPartlyCut slots first before marks l at left least_left) (sym same)
      (subst (λ p. IsPartlyCut slots first before marks blocks at p least_left) (sym rest) (subst (λ p. IsPartlyCut slots first before marks blocks at present p) (sym bound) c))
  close marks blocks new at present least left least_left c (inl (longer, none)) =
      let block : MarkBlock = record { present = present; end = at; least_counter = least } in
      let len : length (blocks ++ block ∷ []) ≡ length blocks + 1 = length-append blocks (block ∷ []) in
      let last : block_at (blocks ++ block ∷ []) (length blocks) ≡ block = get_or-append_seam blocks block [] no_block in
      subst (λ l. IsPartlyCut slots first before marks l at left least_left) (sym longer) (subst (λ p. IsPartlyCut slots first before marks (blocks ++ block ∷ []) at p least_left) (sym none)
      (record {
        done = c.done;
        parts = c.parts;
        same = c.same;
        len = c.len;
        counted = record {
          rising = c.counted.rising;
          counted = λ k h. by k (eqb k (length blocks)) refl (omega (arith, h, len));
          ends = λ k h. to k (eqb k (length blocks)) refl (omega (arith, h, len));
        };
        within = along-map (λ n h. omega (arith, h, len)) c.done c.within;
        rest = sym (count-none marks (length (blocks ++ block ∷ [])) c.done (along-map (λ n h. omega (arith, h, len)) c.done c.within));
        above =
            along-both {P = λ n. IsAbove slots marks blocks n × ((mark_at marks n).block ≡ length blocks → least ≤ (slot_at slots n).id.counter)}
            {Q = λ n. (mark_at marks n).block < suc (length blocks)} {R = IsAbove slots marks (blocks ++ block ∷ [])} (λ n h l. bounded n (eqb (mark_at marks n).block (length blocks)) refl h.0 h.1 l) c.done
            (along-both {P = IsAbove slots marks blocks} {Q = λ n. (mark_at marks n).block ≡ length blocks → least ≤ (slot_at slots n).id.counter}
            {R = λ n. IsAbove slots marks blocks n × ((mark_at marks n).block ≡ length blocks → least ≤ (slot_at slots n).id.counter)} (λ n h o. (h, o)) c.done c.above c.open_above) c.within;
        open_above = along-map (λ n h e. absurd (omega (arith, h, e, len))) c.done c.within;
      }))
    where
      by : (k : ℕ) (b : Bool) → eqb k (length blocks) ≡ b → k < suc (length blocks)
          → (block_at (blocks ++ record { present = present; end = at; least_counter = least } ∷ []) k).present ≡ count_where (is_marked_in k) marks c.done
      by k true e h =
          let here : k ≡ length blocks = eqb-true k (length blocks) e in
          ap (λ m. (block_at (blocks ++ record { present = present; end = at; least_counter = least } ∷ []) m).present) here
          ∙ ap (λ x. x.present) (get_or-append_seam blocks (record { present = present; end = at; least_counter = least }) [] no_block)
          ∙ c.rest ∙ ap (λ m. count_where (is_marked_in m) marks c.done) (sym here)
      by k false e h =
          let less : k < length blocks = less_of k (length blocks) e h in
          ap (λ x. x.present) (get_or-append blocks (record { present = present; end = at; least_counter = least } ∷ []) no_block k less) ∙ c.counted.counted k less

      to : (k : ℕ) (b : Bool) → eqb k (length blocks) ≡ b → k < suc (length blocks)
          → (block_at (blocks ++ record { present = present; end = at; least_counter = least } ∷ []) k).end ≡ start_of at (from_block (suc k) marks c.done)
      to k true e h =
          let here : k ≡ length blocks = eqb-true k (length blocks) e in
          ap (λ m. (block_at (blocks ++ record { present = present; end = at; least_counter = least } ∷ []) m).end) here
          ∙ ap (λ x. x.end) (get_or-append_seam blocks (record { present = present; end = at; least_counter = least }) [] no_block)
          ∙ ap (start_of at) (sym (from-none marks (suc (length blocks)) c.done c.within))
          ∙ ap (λ m. start_of at (from_block (suc m) marks c.done)) (sym here)
      to k false e h =
          let less : k < length blocks = less_of k (length blocks) e h in
          ap (λ x. x.end) (get_or-append blocks (record { present = present; end = at; least_counter = least } ∷ []) no_block k less) ∙ c.counted.ends k less

      bounded : (n : SlotNumber) (b : Bool) → eqb (mark_at marks n).block (length blocks) ≡ b → IsAbove slots marks blocks n
          → ((mark_at marks n).block ≡ length blocks → least ≤ (slot_at slots n).id.counter) → (mark_at marks n).block < suc (length blocks)
          → IsAbove slots marks (blocks ++ record { present = present; end = at; least_counter = least } ∷ []) n
      bounded n true e old opened h =
          let here : (mark_at marks n).block ≡ length blocks = eqb-true (mark_at marks n).block (length blocks) e in
          let is : (block_at (blocks ++ record { present = present; end = at; least_counter = least } ∷ []) (mark_at marks n).block).least_counter ≡ least =
          ap (λ m. (block_at (blocks ++ record { present = present; end = at; least_counter = least } ∷ []) m).least_counter) here
          ∙ ap (λ x. x.least_counter) (get_or-append_seam blocks (record { present = present; end = at; least_counter = least }) [] no_block) in
          omega (arith, is, opened here)
      bounded n false e old opened h =
          let less : (mark_at marks n).block < length blocks = less_of (mark_at marks n).block (length blocks) e h in
          let is : (block_at (blocks ++ record { present = present; end = at; least_counter = least } ∷ []) (mark_at marks n).block).least_counter ≡ (block_at blocks (mark_at marks n).block).least_counter =
          ap (λ x. x.least_counter) (get_or-append blocks (record { present = present; end = at; least_counter = least } ∷ []) no_block (mark_at marks n).block less) in
          omega (arith, is, old)

  -- at the end of the path
  gone_through : {marks : List Mark} {blocks : List MarkBlock} {at : Option SlotNumber} {present least : ℕ} (c : IsPartlyCut slots first before marks blocks at present least) → at ≡ None
      → slots_from slots first ≡ c.done
  gone_through c is = c.parts ∙ ap (λ l. c.done ++ l) (ap (slots_from slots) is ∙ walk-None slots) ∙ append-nil c.done

  pub all_cut : (uncut : List MarkBlock) (total : ℕ) (marks : List Mark) (blocks : List MarkBlock) (at : Option SlotNumber) (present least : ℕ)
      → IsMarked slots first before uncut total → at ≡ None → IsPartlyCut slots first before marks blocks at present least → IsMarked slots first marks blocks total
  all_cut uncut total marks blocks at present least m is c =
      let whole : slots_from slots first ≡ c.done = gone_through c is in
      record {
        walk = m.walk;
        marked = c.len ∙ m.marked;
        counted = subst (λ l. IsCounted marks blocks l None) (sym whole) (subst (λ o. IsCounted marks blocks c.done o) is c.counted);
        all = m.all ∙ sym (count-presence before marks c.same (slots_from slots first));
        above = subst (Along (IsAbove slots marks blocks)) (sym whole) c.above;
      }

  -- without blocks
  pub all_open : (blocks : List MarkBlock) (total : ℕ) → IsMarked slots first before blocks total → IsMarked slots first before [] total
  all_open blocks total m = record {
    walk = m.walk;
    marked = m.marked;
    counted = record {
      rising = m.counted.rising;
      counted = λ k h. absurd (omega arith);
      ends = λ k h. absurd (omega arith);
    };
    all = m.all;
    above = along (λ n. omega arith) (slots_from slots first);
  }
