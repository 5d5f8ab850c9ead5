-- What a new slot makes of the marks and the blocks.
use Rattle.std.proofs.Common.{◌≡◌, ◌<◌, ◌≤◌, ◌+◌, ℕ, suc, List, [], ◌∷◌, ◌++◌, length, length-append, Bool, true, false, ◌&&◌, nat_eq, nat_le, eqb, eqb-true, if◌then◌else◌, Option, Some, None, Contains, refl, sym, ap, ◌∙◌, subst, arith}
use Rattle.std.proofs.lemmas.Bool.{leb-false, lt-leb}
use Rattle.std.specs.Option.{ForSome}
use Rattle.lamport_id.specs.declared.id.Id.{Id}
use Rattle.crdt_rules.specs.Same.{id_eq}
use Rattle.crdt_rules.proofs.SameLaws.{id_decides, eq_from}
use Rattle.presence_set.specs.ById.{get, put_at_id}
use Rattle.presence_set.proofs.ByIdLaws.{get-put}
use Rattle.list_order.specs.declared.slots.Slot.{Slot}
use Rattle.list_order.specs.declared.slots.SlotNumber.{SlotNumber}
use Rattle.list_order.specs.declared.marks.Mark.{Mark}
use Rattle.list_order.specs.declared.marks.MarkBlock.{MarkBlock}
use Rattle.list_laws.specs.Order.{insert_after}
use Rattle.list_order.specs.Entries.{absent, entry_cmp, entry_of_reference}
use Rattle.list_order.specs.Slots.{slot_at, slots_from, ids_along, number_along, place_in, fresh_in, linked, linked_first, IsPath}
use Rattle.list_order.specs.Marks.{mark_at, count_where, is_marked, is_marked_in, from_block, start_of, block_at, block_behind, lowered_in, unmarked, new_mark, entries_along, IsAbove, IsInBlockOrder, IsCounted, IsMarkedOrder}
use Rattle.list_order.proofs.Paths.{walk-None}
use Rattle.list_order.proofs.Placing.{last_of}
use Rattle.list_order.proofs.Linking.{IsLinked}
use Rattle.list_order.proofs.Inserting.{first_walk, cut, made, new_path, marks_stay, mark_is, entries_inserted, order_inserted, none_ordered}
use Rattle.std.proofs.Math.ListN.{get_or-append}
use Rattle.list_order.proofs.Lowering.{counted_lowered, lowered_least, lowered_there}
use Rattle.list_order.proofs.Counting.{Along, IsSameMark, less_of}
use Rattle.list_order.proofs.Same.{count-same, blocks-same, from-same, rising-same}

-- the block of the last slot
abbrev last_block : ℕ → List Mark → List SlotNumber → ℕ
last_block low marks [] = low
last_block low marks (n ∷ path) = last_block (mark_at marks n).block marks path

behind-last : (marks : List Mark) (previous : Option SlotNumber) (path : List SlotNumber) → block_behind marks (last_of previous path) ≡ last_block (block_behind marks previous) marks path
behind-last marks previous [] = refl
behind-last marks previous (n ∷ path) = behind-last marks (Some n) path

along-insert : (P : SlotNumber → Type 0) (xs ys : List SlotNumber) (n : SlotNumber) → P n → Along P (xs ++ ys) → Along P (xs ++ n ∷ ys)
along-insert P [] ys n p a = (p, a)
along-insert P (x ∷ xs) ys n p a = (a.0, along-insert P xs ys n p a.1)

module _ (marks later : List Mark) (fresh : SlotNumber) where
  count_added : (test : Mark → Bool) → test (mark_at later fresh) ≡ false → (front rest : List SlotNumber) → Along (IsSameMark marks later) (front ++ rest)
      → count_where test later (front ++ fresh ∷ rest) ≡ count_where test marks (front ++ rest)
  count_added test none [] rest s = rw none (count-same marks later test rest s)
  count_added test none (n ∷ front) rest s = let c = count_added test none front rest s.1 in λ i. if test (s.0 i) then suc (c i) else c i

  start_added : (k low : ℕ) (at : Option SlotNumber) (front rest : List SlotNumber) → low ≤ k → (mark_at later fresh).block ≡ last_block low marks front
      → Along (IsSameMark marks later) (front ++ rest)
      → start_of at (from_block (suc k) later (front ++ fresh ∷ rest)) ≡ start_of at (from_block (suc k) marks (front ++ rest))
  start_added k low at [] rest le is s =
      rw (lt-leb (suc k) (mark_at later fresh).block (omega (arith, is))) (ap (start_of at) (from-same marks later (suc k) rest (blocks-same marks later rest s)))
  start_added k low at (n ∷ front) rest le is s =
      (λ i. start_of at (if nat_le (suc k) (s.0 i).block then n ∷ (front ++ fresh ∷ rest) else from_block (suc k) later (front ++ fresh ∷ rest)))
      ∙ go (nat_le (suc k) (mark_at marks n).block) refl (λ h. start_added k (mark_at marks n).block at front rest h is s.1)
    where
      go : (b : Bool) → nat_le (suc k) (mark_at marks n).block ≡ b
          → ((mark_at marks n).block ≤ k → start_of at (from_block (suc k) later (front ++ fresh ∷ rest)) ≡ start_of at (from_block (suc k) marks (front ++ rest)))
          → start_of at (if b then n ∷ (front ++ fresh ∷ rest) else from_block (suc k) later (front ++ fresh ∷ rest)) ≡ start_of at (if b then n ∷ (front ++ rest) else from_block (suc k) marks (front ++ rest))
      go true e ih = refl
      go false e ih = ih (omega (arith, leb-false (suc k) (mark_at marks n).block e))

  rising_added : (low : ℕ) (front rest : List SlotNumber) → (mark_at later fresh).block ≡ last_block low marks front → Along (IsSameMark marks later) (front ++ rest)
      → IsInBlockOrder low marks (front ++ rest) → IsInBlockOrder low later (front ++ fresh ∷ rest)
  rising_added low [] rest is s h =
      (omega (arith, is), subst (λ b. IsInBlockOrder b later rest) (sym is) (rising-same marks later low rest (blocks-same marks later rest s) h))
  rising_added low (n ∷ front) rest is s h =
      (omega (arith, ap (λ m. m.block) s.0, h.0), subst (λ m. IsInBlockOrder m.block later (front ++ fresh ∷ rest)) (sym s.0) (rising_added (mark_at marks n).block front rest is s.1 h.1))

module _ {slots : List Slot} {first : Option SlotNumber} {index : List (Id × SlotNumber)} {marks : List Mark} {blocks : List MarkBlock} {present : ℕ}
    (k : IsMarkedOrder slots first index marks blocks present) where
  module _ (after : Option Id) (known : ForSome after (Contains (ids_along slots (slots_from slots first)))) (id : Id)
      (new : number_along slots (slots_from slots first) id ≡ None) where
    abbrev pub previous : Option SlotNumber
    previous = place_in slots first index after id

    abbrev pub later : List Mark
    later = marks ++ new_mark marks previous ∷ []

    abbrev fresh : SlotNumber
    fresh = fresh_in slots

    abbrev grown : List Slot
    grown = linked slots first previous id

    links : IsLinked slots grown fresh id
    links = (made k.order marks k.fits.marked after known id new).slots_are

    other : (x y : Id) (n : SlotNumber) → get index y ≡ Some n → x ≡ id → (if id_eq x y then Some fresh else get index y) ≡ Some n
    other x y n mine is = go (id_eq x y) refl
      where
        go : (b : Bool) → id_eq x y ≡ b → (if b then Some fresh else get index y) ≡ Some n
        go true e =
            let none : get index id ≡ None = k.order.exact id ∙ new in
            let clash : ◌≡◌ {A = Option SlotNumber} None (Some n) = sym none ∙ ap (get index) (sym is ∙ id_decides.same x y e) ∙ mine in
            absurd (cc)
        go false e = mine

    own_added : (n : SlotNumber) → n.0 < length grown → get (put_at_id index id fresh) (slot_at grown n).id ≡ Some n
    own_added n within = get-put index id fresh (slot_at grown n).id ∙ go (eqb n.0 (length slots)) refl
      where
        go : (b : Bool) → eqb n.0 (length slots) ≡ b
            → (if id_eq id (slot_at grown n).id then Some fresh else get index (slot_at grown n).id) ≡ Some n
        go true e =
            let here : fresh ≡ n = λ i. record { 0 = sym (eqb-true n.0 (length slots) e) i } in
            let is : (slot_at grown n).id ≡ id = ap (λ p. (slot_at grown p).id) (sym here) ∙ links.new_id in
            rw (eq_from id_decides id (slot_at grown n).id (sym is)) (ap Some here)
        go false e =
            let less : n.0 < length slots = less_of n.0 (length slots) e (omega (arith, within, links.longer)) in
            let is : (slot_at grown n).id ≡ (slot_at slots n).id = links.ids n less in
            let mine : get index (slot_at grown n).id ≡ Some n = ap (get index) is ∙ k.own n less in
            other id (slot_at grown n).id n mine refl

    abbrev lower : List MarkBlock
    lower = lowered_in blocks (block_behind marks previous) id.counter

    above_fresh : IsAbove grown later lower fresh
    above_fresh =
        let counter : (slot_at grown fresh).id.counter ≡ id.counter = ap (λ i. i.counter) links.new_id in
        let least : (block_at lower (mark_at later fresh).block).least_counter ≡ (block_at lower (block_behind marks previous)).least_counter =
        ap (λ x. (block_at lower x.block).least_counter) (mark_is k.order marks k.fits.marked after known id new) in
        omega (arith, counter, least, lowered_there blocks (block_behind marks previous) id.counter)

    above_stays : (at : Option SlotNumber) (path : List SlotNumber) → IsPath slots at path → Along (IsAbove slots marks blocks) path
        → Along (IsAbove grown later lower) path
    above_stays at [] p a = tt
    above_stays at (n ∷ path) p a =
        let counter : (slot_at grown n).id.counter ≡ (slot_at slots n).id.counter =
        ap (λ i. i.counter) (links.ids n p.1) in
        let mark : mark_at later n ≡ mark_at marks n = get_or-append marks (new_mark marks previous ∷ []) unmarked n.0 (omega (arith, p.1, k.fits.marked)) in
        let least : (block_at lower (mark_at later n).block).least_counter ≡ (block_at lower (mark_at marks n).block).least_counter = ap (λ x. (block_at lower x.block).least_counter) mark in (
          omega (arith, counter, least, lowered_least blocks (block_behind marks previous) id.counter (mark_at marks n).block, a.0),
          above_stays (slot_at slots n).next path p.2 a.1,
        )

    kept_added : (entries : List (Id × SlotNumber)) → entries ≡ put_at_id index id fresh → length entries ≡ length index + 1
        → IsMarkedOrder grown (linked_first slots first previous) entries later lower present
    kept_added entries are longer =
        let c = cut k.order marks k.fits.marked after known id new in
        let path = new_path k.order marks k.fits.marked after known id new in
        let stay = marks_stay k.order marks k.fits.marked after known id new in
        let mark = mark_is k.order marks k.fits.marked after known id new in
        let old : IsCounted marks lower (c.front ++ c.rest) None = counted_lowered (block_behind marks previous) id.counter (subst (λ l. IsCounted marks blocks l None) c.parts k.fits.counted) in
        let block : (mark_at later fresh).block ≡ last_block 0 marks c.front = ap (λ x. x.block) mark ∙ ap (block_behind marks) (sym c.ends) ∙ behind-last marks None c.front in
        let absent : (mark_at later fresh).is_present ≡ false = ap (λ x. x.is_present) mark in
        let ordered = order_inserted k.order marks k.fits.marked after known id new entries are longer in
        record {
          order = ordered;
          own = λ n within. ap (λ l. get l (slot_at grown n).id) are ∙ own_added n within;
          fits = record {
            walk = first_walk ordered;
            marked = omega (arith, length-append marks (new_mark marks previous ∷ []), k.fits.marked, links.longer);
            counted = subst (λ l. IsCounted later lower l None) (sym path) (record {
              rising = rising_added marks later fresh 0 c.front c.rest block stay old.rising;
              counted = λ j h. old.counted j h ∙ sym (count_added marks later fresh (is_marked_in j) (ap (λ p. p && nat_eq (mark_at later fresh).block j) absent) c.front c.rest stay);
              ends = λ j h. old.ends j h ∙ sym (start_added marks later fresh j 0 None c.front c.rest (omega arith) block stay);
            });
            all =
                k.fits.all ∙ ap (count_where is_marked marks) c.parts ∙ sym (count_added marks later fresh is_marked absent c.front c.rest stay)
                ∙ ap (count_where is_marked later) (sym path);
            above =
                subst (Along (IsAbove grown later lower)) (sym path)
                (along-insert (IsAbove grown later lower) c.front c.rest fresh above_fresh
                (above_stays first (c.front ++ c.rest) (subst (IsPath slots first) c.parts k.order.path) (subst (Along (IsAbove slots marks blocks)) c.parts k.fits.above)));
          };
        }

    -- what the calls of an insertion make
    pub kept_made : (last : Option SlotNumber) → last ≡ previous
        → (new_slots : List Slot) → new_slots ≡ linked slots first last id → (new_first : Option SlotNumber) → new_first ≡ linked_first slots first last
        → (entries : List (Id × SlotNumber)) → entries ≡ put_at_id index id (fresh_in slots) → length entries ≡ length index + 1
        → (new_marks : List Mark) → new_marks ≡ marks ++ new_mark marks last ∷ []
        → (new_blocks : List MarkBlock) → new_blocks ≡ lowered_in blocks (block_behind marks last) id.counter
        → (new_present : ℕ) → new_present ≡ present
        → IsMarkedOrder new_slots new_first entries new_marks new_blocks new_present
        × (entries_along new_slots new_marks (slots_from new_slots new_first) ≡ insert_after entry_cmp (entries_along slots marks (slots_from slots first)) (entry_of_reference after) (absent id))
    kept_made last l new_slots slots_are new_first first_is entries entries_are longer new_marks marks_are new_blocks blocks_are new_present present_is =
        let a : grown ≡ new_slots = ap (λ p. linked slots first p id) (sym l) ∙ sym slots_are in
        let b : linked_first slots first previous ≡ new_first = ap (linked_first slots first) (sym l) ∙ sym first_is in
        let d : later ≡ new_marks = ap (λ p. marks ++ new_mark marks p ∷ []) (sym l) ∙ sym marks_are in
        let g : lower ≡ new_blocks = ap (λ p. lowered_in blocks (block_behind marks p) id.counter) (sym l) ∙ sym blocks_are in
        let are : ◌≡◌ {A = List Slot × Option SlotNumber × List Mark × List MarkBlock × ℕ} (grown, linked_first slots first previous, later, lower, present) (new_slots, new_first, new_marks, new_blocks, new_present) =
        λ i. (a i, b i, d i, g i, sym present_is i) in (
          subst (λ t. IsMarkedOrder t.0 t.1 entries t.2 t.3 t.4) are (kept_added entries entries_are longer),
          (λ i. entries_along (sym a i) (sym d i) (slots_from (sym a i) (sym b i))) ∙ entries_inserted k.order marks k.fits.marked after known id new,
        )

-- no slots
pub none_kept : IsMarkedOrder [] None [] [] [] 0
none_kept = record {
  order = none_ordered;
  own = λ n h. absurd (omega arith);
  fits = record {
    walk = first_walk none_ordered;
    marked = refl;
    counted = record {
      rising = subst (IsInBlockOrder 0 []) (sym (walk-None [])) tt;
      counted = λ k h. absurd (omega arith);
      ends = λ k h. absurd (omega arith);
    };
    all = sym (ap (count_where is_marked []) (walk-None []));
    above = subst (Along (IsAbove [] [] [])) (sym (walk-None [])) tt;
  };
}
