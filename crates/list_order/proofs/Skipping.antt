-- Blocks that an insertion passes at once.
use Rattle.std.proofs.Common.{◌≡◌, ◌<◌, ◌≤◌, ℕ, suc, List, [], ◌∷◌, ◌++◌, append_assoc, length, Bool, true, false, eqb, eqb-true, inl, inr, Option, Some, refl, sym, ap, ◌∙◌, subst, arith}
use Rattle.std.proofs.lemmas.Bool.{lt-leb, le-ltb}
use Rattle.std.specs.Ordering.{is_lt}
use Rattle.doc_api.specs.Words.{Id, id_cmp}
use Rattle.list_order.specs.declared.slots.Slot.{Slot}
use Rattle.list_order.specs.declared.slots.SlotNumber.{SlotNumber}
use Rattle.list_order.specs.declared.marks.Mark.{Mark}
use Rattle.list_order.specs.declared.marks.MarkBlock.{MarkBlock}
use Rattle.list_order.specs.Slots.{slot_at, slots_from, passed, LeadsTo, LinksEnd}
use Rattle.list_order.specs.Marks.{mark_at, block_at, from_block, IsInBlockOrder, IsAbove, IsMarked, PassesOn, SkipsTo}
use Rattle.list_order.proofs.Paths.{walk-Some}
use Rattle.list_order.proofs.Scanning.{IsStep, step, passed_on}
use Rattle.list_order.proofs.Counting.{Along, along-map, along-both, along-append, length-from, block_end}
use Rattle.list_order.proofs.Cutting.{before_block, split, within_front, rising_front}

-- an id with a greater counter isn't less
greater_counter : (a b : Id) → b.counter < a.counter → is_lt (id_cmp a b) ≡ false
greater_counter a b h =
    rw (le-ltb a.counter b.counter (omega (arith, h)), differ (eqb a.counter b.counter) refl) refl
  where
    differ : (e : Bool) → eqb a.counter b.counter ≡ e → eqb a.counter b.counter ≡ false
    differ true e = absurd (omega (arith, h, eqb-true a.counter b.counter e))
    differ false e = e

module _ (marks : List Mark) where
  first_below : (low : ℕ) (front : List SlotNumber) (n : SlotNumber) (rest : List SlotNumber) → IsInBlockOrder low marks (front ++ n ∷ rest) → low ≤ (mark_at marks n).block
  first_below low [] n rest h = h.0
  first_below low (m ∷ front) n rest h = omega (arith, h.0, first_below (mark_at marks m).block front n rest h.1)

  -- what is before a slot is in no later block
  front_below : (low : ℕ) (front : List SlotNumber) (n : SlotNumber) (rest : List SlotNumber) → IsInBlockOrder low marks (front ++ n ∷ rest)
      → Along (λ m. (mark_at marks m).block < suc (mark_at marks n).block) front
  front_below low [] n rest h = tt
  front_below low (m ∷ front) n rest h =
      (omega (arith, first_below (mark_at marks m).block front n rest h.1), front_below (mark_at marks m).block front n rest h.1)

  rising_rest : (low : ℕ) (front : List SlotNumber) (n : SlotNumber) (rest : List SlotNumber) → IsInBlockOrder low marks (front ++ n ∷ rest)
      → IsInBlockOrder (mark_at marks n).block marks (n ∷ rest)
  rising_rest low [] n rest h = (omega arith, h.1)
  rising_rest low (m ∷ front) n rest h = rising_rest (mark_at marks m).block front n rest h.1

  rising_above : (low : ℕ) (path : List SlotNumber) → IsInBlockOrder low marks path → Along (λ m. low ≤ (mark_at marks m).block) path
  rising_above low [] h = tt
  rising_above low (n ∷ path) h = (h.0, along-map (λ m le. omega (arith, le, h.0)) path (rising_above (mark_at marks n).block path h.1))

  from_front : (k : ℕ) (front ys : List SlotNumber) → Along (λ m. (mark_at marks m).block < k) front → from_block k marks (front ++ ys) ≡ from_block k marks ys
  from_front k [] ys a = refl
  from_front k (m ∷ front) ys a = rw (lt-leb k (mark_at marks m).block a.0) (from_front k front ys a.1)

module _ (slots : List Slot) where
  -- what is passed is passed up to the last that is
  passed_over : (id : Id) (previous : Option SlotNumber) (m : SlotNumber) (xs rest : List SlotNumber) → Along (λ x. is_lt (id_cmp (slot_at slots x).id id) ≡ false) xs
      → is_lt (id_cmp (slot_at slots m).id id) ≡ false → passed slots id previous (xs ++ m ∷ rest) ≡ passed slots id (Some m) rest
  passed_over id previous m [] rest a h = rw h refl
  passed_over id previous m (x ∷ xs) rest a h = rw a.0 (passed_over id (Some x) m xs rest a.1 h)

-- from a slot that is passed one goes on to this one
pub record IsPassedTo (slots : List Slot) (first at : Option SlotNumber) (id : Id) (previous : Option SlotNumber) (n : SlotNumber) (next : Option SlotNumber) : Type 0 where
  pub walk : LinksEnd slots next
  pub leads : LeadsTo slots first next
  pub same : passed slots id (Some n) (slots_from slots next) ≡ passed slots id previous (slots_from slots at)
  pub shorter : length (slots_from slots next) < length (slots_from slots at)

module _ (slots : List Slot) (marks : List Mark) (blocks : List MarkBlock) (first : Option SlotNumber) (present : ℕ) (fits : IsMarked slots first marks blocks present)
    (id : Id) (previous at : Option SlotNumber) (n : SlotNumber) where
  -- the ids of a block with greater counters aren't less
  greater_in : (k : ℕ) → id.counter < (block_at blocks k).least_counter → (m : SlotNumber) → IsAbove slots marks blocks m → (k ≤ (mark_at marks m).block) → ((mark_at marks m).block < suc k)
      → is_lt (id_cmp (slot_at slots m).id id) ≡ false
  greater_in k less m above from to =
      let here : (mark_at marks m).block ≡ k = omega (arith, from, to) in
      let least : (block_at blocks (mark_at marks m).block).least_counter ≡ (block_at blocks k).least_counter = ap (λ j. (block_at blocks j).least_counter) here in
      greater_counter (slot_at slots m).id id (omega (arith, above, least, less))

  skip_on : IsStep slots at n → LinksEnd slots at → LeadsTo slots first at → (m : SlotNumber) → SkipsTo slots marks blocks id n m → IsPassedTo slots first at id previous n (Some m)
  skip_on s walk leads m to =
      let b : ℕ = (mark_at marks n).block in
      let front : List SlotNumber = leads.0 in
      let rest : List SlotNumber = slots_from slots (slot_at slots n).next in
      let xs : List SlotNumber = before_block marks (suc b) (n ∷ rest) in
      let all : slots_from slots first ≡ front ++ n ∷ rest = leads.1 ∙ ap (λ l. front ++ l) s.path in
      let rising : IsInBlockOrder 0 marks (front ++ n ∷ rest) = subst (IsInBlockOrder 0 marks) all fits.counted.rising in
      let end = block_end marks slots first blocks fits.walk fits.counted b to.block in
      let goes_on : LinksEnd slots (Some m) = subst (LinksEnd slots) to.end end.0 in
      let behind_is : slots_from slots (Some m) ≡ from_block (suc b) marks (n ∷ rest) =
      ap (slots_from slots) (sym to.end) ∙ end.1 ∙ ap (from_block (suc b) marks) all ∙ from_front marks (suc b) front (n ∷ rest) (front_below marks 0 front n rest rising) in
      let parts : n ∷ rest ≡ xs ++ slots_from slots (Some m) = split marks (suc b) (n ∷ rest) ∙ ap (λ l. xs ++ l) (sym behind_is) in
      let on = walk-Some slots m goes_on in
      let after : List SlotNumber = slots_from slots (slot_at slots m).next in
      let later : Along (IsAbove slots marks blocks) (n ∷ rest) = (along-append (IsAbove slots marks blocks) front (n ∷ rest) (subst (Along (IsAbove slots marks blocks)) all fits.above)).1 in
      let above : Along (IsAbove slots marks blocks) xs = (along-append (IsAbove slots marks blocks) xs (slots_from slots (Some m)) (subst (Along (IsAbove slots marks blocks)) parts later)).0 in
      let from : Along (λ x. b ≤ (mark_at marks x).block) xs = rising_above marks b xs (rising_front marks (suc b) b (n ∷ rest) (rising_rest marks 0 front n rest rising)) in
      let greater : Along (λ x. is_lt (id_cmp (slot_at slots x).id id) ≡ false) xs =
      along-both {P = λ x. IsAbove slots marks blocks x × (b ≤ (mark_at marks x).block)} {Q = λ x. (mark_at marks x).block < suc b} {R = λ x. is_lt (id_cmp (slot_at slots x).id id) ≡ false}
      (λ x h l. greater_in b to.above x h.0 h.1 l) xs
      (along-both {P = IsAbove slots marks blocks} {Q = λ x. b ≤ (mark_at marks x).block} {R = λ x. IsAbove slots marks blocks x × (b ≤ (mark_at marks x).block)} (λ x h l. (h, l)) xs above from)
      (within_front marks (suc b) (n ∷ rest)) in
      let skipped : from_block (suc b) marks (n ∷ rest) ≡ from_block (suc b) marks rest = from_front marks (suc b) (n ∷ []) rest (omega arith, tt) in
      record {
        walk = goes_on;
        leads = (front ++ xs, all ∙ ap (λ l. front ++ l) parts ∙ sym (append_assoc front xs (slots_from slots (Some m))));
        same =
            ap (passed slots id (Some n)) on.1
            ∙ passed_over slots id (Some n) m [] after tt to.greater
            ∙ sym (passed_over slots id previous m xs after greater to.greater)
            ∙ ap (λ l. passed slots id previous (xs ++ l)) (sym on.1)
            ∙ ap (passed slots id previous) (sym parts)
            ∙ ap (passed slots id previous) (sym s.path);
        shorter = omega (arith, ap length behind_is, ap length skipped, length-from marks (suc b) rest, ap length s.path);
      }

  pub pass_on : at ≡ Some n → LinksEnd slots at → LeadsTo slots first at → is_lt (id_cmp (slot_at slots n).id id) ≡ false → (next : Option SlotNumber)
      → PassesOn slots marks blocks id n next → IsPassedTo slots first at id previous n next
  pass_on is walk leads over next (inl e) =
      let s = step slots at n is walk in
      subst (IsPassedTo slots first at id previous n) (sym e)
      (record {
        walk = s.walk;
        leads = (
          leads.0 ++ n ∷ [],
          leads.1 ∙ ap (λ l. leads.0 ++ l) s.path ∙ sym (append_assoc leads.0 (n ∷ []) (slots_from slots (slot_at slots n).next)),
        );
        same = passed_on slots id previous at n s over;
        shorter = s.shorter;
      })
  pass_on is walk leads over next (inr (m, e, to)) = subst (IsPassedTo slots first at id previous n) (sym e) (skip_on (step slots at n is walk) walk leads m to)
