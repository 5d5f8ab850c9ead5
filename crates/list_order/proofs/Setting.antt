-- What another presence makes of the marks and the blocks.
use Rattle.std.proofs.Common.{◌≡◌, ◌≢◌, ◌<◌, ◌≤◌, ◌+◌, ◌-◌, ◌^◌, ℕ, suc, List, [], ◌∷◌, ◌++◌, length, set, length-set, get_or-set_same, get_or-set_other, Bool, true, false, eqb, eqb-true, eq-eqb, if◌then◌else◌, Option, Some, None, refl, sym, ap, ◌∙◌, subst, true≢false, arith}
use Rattle.std.proofs.Math.Bool.{and-true}
use Rattle.lamport_id.specs.declared.id.Id.{Id}
use Rattle.crdt_rules.specs.Same.{id_eq}
use Rattle.crdt_rules.proofs.SameLaws.{id_decides, eq_from}
use Rattle.presence_set.specs.ById.{get}
use Rattle.list_order.specs.declared.slots.Slot.{Slot}
use Rattle.list_order.specs.declared.slots.SlotNumber.{SlotNumber}
use Rattle.list_order.specs.declared.marks.Mark.{Mark}
use Rattle.list_order.specs.declared.marks.MarkBlock.{MarkBlock}
use Rattle.list_order.specs.Entries.{with_presence}
use Rattle.list_order.specs.Slots.{slot_at, IsPath, slots_from, number_along}
use Rattle.list_order.specs.Marks.{mark_at, block_at, no_block, count_where, is_marked, is_marked_in, start_of, bit, moved, set_mark, moved_in, entries_along, IsAbove, IsMarkedOrder, MayMove, MaySet}
use Rattle.list_order.proofs.Paths.{length-path_from}
use Rattle.list_order.proofs.Placing.{found}
use Rattle.list_order.proofs.Inserting.{number_within}
use Rattle.list_order.proofs.Counting.{Along, along, along-map, IsSameMark, IsSameBlock, not_other}
use Rattle.list_order.proofs.Lowering.{set_keeps}
use Rattle.list_order.proofs.Same.{count-same, from-same, rising-same, count-append, count_within}
use Rattle.list_order.proofs.Apart.{apart_front, apart_rest, set_here, set_other, set_apart}

-- a count moves by one mark
module _ (marks new : List Mark) (n : SlotNumber) (test : Mark → Bool) where
  pub count_moved : (front rest : List SlotNumber) → Along (IsSameMark marks new) front → Along (IsSameMark marks new) rest
      → count_where test new (front ++ n ∷ rest) + bit (test (mark_at marks n)) ≡ count_where test marks (front ++ n ∷ rest) + bit (test (mark_at new n))
  count_moved [] rest s t =
      go (test (mark_at marks n)) (test (mark_at new n)) (count-same marks new test rest t)
    where
      go : (was is : Bool) → count_where test new rest ≡ count_where test marks rest
          → (if is then suc (count_where test new rest) else count_where test new rest) + bit was ≡ (if was then suc (count_where test marks rest) else count_where test marks rest) + bit is
      go true true e = omega (arith, e)
      go true false e = omega (arith, e)
      go false true e = omega (arith, e)
      go false false e = omega (arith, e)
  count_moved (m ∷ front) rest s t =
      (λ i. (if test (s.0 i) then suc (count_where test new (front ++ n ∷ rest)) else count_where test new (front ++ n ∷ rest)) + bit (test (mark_at marks n)))
      ∙ go (test (mark_at marks m)) (count_moved front rest s.1 t)
    where
      go : (b : Bool) → count_where test new (front ++ n ∷ rest) + bit (test (mark_at marks n)) ≡ count_where test marks (front ++ n ∷ rest) + bit (test (mark_at new n))
          → (if b then suc (count_where test new (front ++ n ∷ rest)) else count_where test new (front ++ n ∷ rest)) + bit (test (mark_at marks n))
          ≡ (if b then suc (count_where test marks (front ++ n ∷ rest)) else count_where test marks (front ++ n ∷ rest)) + bit (test (mark_at new n))
      go true ih = omega (arith, ih)
      go false ih = ih

pub counted_here : (marks : List Mark) (test : Mark → Bool) (front : List SlotNumber) (n : SlotNumber) (rest : List SlotNumber)
    → bit (test (mark_at marks n)) ≤ count_where test marks (front ++ n ∷ rest)
counted_here marks test front n rest =
    let here : bit (test (mark_at marks n)) ≤ count_where test marks (n ∷ rest) = go (test (mark_at marks n)) in
    omega (arith, here, count-append marks test front (n ∷ rest))
  where
    go : (b : Bool) → bit b ≤ (if b then suc (count_where test marks rest) else count_where test marks rest)
    go true = omega arith
    go false = omega arith

number_is : (slots : List Slot) (path : List SlotNumber) (id : Id) (n : SlotNumber) → number_along slots path id ≡ Some n → (slot_at slots n).id ≡ id
number_is slots [] id n e = absurd (cc)
number_is slots (m ∷ path) id n e = go (id_eq (slot_at slots m).id id) refl e (number_is slots path id n)
  where
    go : (b : Bool) → id_eq (slot_at slots m).id id ≡ b → ◌≡◌ {A = Option SlotNumber} (if b then Some m else number_along slots path id) (Some n)
        → (number_along slots path id ≡ Some n → (slot_at slots n).id ≡ id) → (slot_at slots n).id ≡ id
    go true is h ih = let same : m ≡ n = cc in ap (λ k. (slot_at slots k).id) (sym same) ∙ id_decides.same (slot_at slots m).id id is
    go false is h ih = ih h

module _ {slots : List Slot} {first : Option SlotNumber} {index : List (Id × SlotNumber)} {marks : List Mark} {blocks : List MarkBlock} {present : ℕ}
    (k : IsMarkedOrder slots first index marks blocks present) (id : Id) where
  unchanged : get index id ≡ None → (is : Bool) → (m : SlotNumber) → m.0 < length slots → (b : Bool) → id_eq (slot_at slots m).id id ≡ b
      → ◌≡◌ {A = Id × Bool} (if b then ((slot_at slots m).id, is) else ((slot_at slots m).id, (mark_at marks m).is_present)) ((slot_at slots m).id, (mark_at marks m).is_present)
  unchanged none is m within true e =
      let clash : ◌≡◌ {A = Option SlotNumber} None (Some m) = sym none ∙ ap (get index) (sym (id_decides.same (slot_at slots m).id id e)) ∙ k.own m within in
      absurd (cc)
  unchanged none is m within false e = refl

  -- an id that the list does not have
  pub with_presence-none : get index id ≡ None → (is : Bool) → with_presence (entries_along slots marks (slots_from slots first)) id is ≡ entries_along slots marks (slots_from slots first)
  with_presence-none none is = go first (slots_from slots first) k.order.path
    where
      go : (at : Option SlotNumber) (path : List SlotNumber) → IsPath slots at path → with_presence (entries_along slots marks path) id is ≡ entries_along slots marks path
      go at [] p = refl
      go at (m ∷ path) p = λ i. unchanged none is m p.1 (id_eq (slot_at slots m).id id) refl i ∷ go (slot_at slots m).next path p.2 i

  module _ (n : SlotNumber) (e : get index id ≡ Some n) (is : Bool) where
    abbrev was : Mark
    was = mark_at marks n

    abbrev mark : Mark
    mark = record { is_present = is; block = (mark_at marks n).block }

    abbrev new : List Mark
    new = set marks n.0 mark

    along_it : number_along slots (slots_from slots first) id ≡ Some n
    along_it = sym (k.order.exact id) ∙ e

    within : n.0 < length slots
    within = (number_within k.order id n e).0

    here : mark_at new n ≡ mark
    here = set_here marks n mark (omega (arith, within, k.fits.marked))

    -- every count, by a test
    count_is : (test : Mark → Bool) → count_where test new (slots_from slots first) + bit (test was) ≡ count_where test marks (slots_from slots first) + bit (test mark)
    count_is test =
        let f = found slots marks (slots_from slots first) id n along_it in
        let p : IsPath slots first (f.front ++ n ∷ f.rest) = subst (λ l. IsPath slots first l) f.parts k.order.path in
        ap (λ l. count_where test new l + bit (test was)) f.parts
        ∙ count_moved marks new n test f.front f.rest (set_apart marks n mark f.front (apart_front slots first f.front n f.rest p)) (set_apart marks n mark f.rest (apart_rest slots first f.front n f.rest p))
        ∙ (λ i. count_where test marks (sym f.parts i) + bit (test (here i)))

    count_enough : (test : Mark → Bool) → bit (test was) ≤ count_where test marks (slots_from slots first)
    count_enough test =
        let f = found slots marks (slots_from slots first) id n along_it in
        subst (λ l. bit (test was) ≤ count_where test marks l) (sym f.parts) (counted_here marks test f.front n f.rest)

    -- a count that the blocks keep may be moved
    may_move : (test : Mark → Bool) (count : ℕ) → count ≡ count_where test marks (slots_from slots first) → test was ≡ was.is_present → test mark ≡ is → length slots < 2 ^ 64
        → MayMove count was.is_present is × (count_where test new (slots_from slots first) ≡ moved count was.is_present is)
    may_move test count is_count t u small =
        let a = count_is test in
        let b = count_enough test in
        let t_bit : bit (test was) ≡ bit was.is_present = ap bit t in
        let u_bit : bit (test mark) ≡ bit is = ap bit u in
        let c = count_within new test (slots_from slots first) in
        let d = length-path_from slots first in
        let same : count_where test new (slots_from slots first) ≡ count - bit was.is_present + bit is = omega (arith, a, b, t_bit, u_bit, is_count) in
        (record { enough = omega (arith, b, t_bit, is_count); fits = omega (arith, c, d, small, same) }, same)

    in_block : is_marked_in was.block was ≡ was.is_present
    in_block = rw (eq-eqb was.block was.block refl) (and-true was.is_present)

    in_block_now : is_marked_in was.block mark ≡ is
    in_block_now = rw (eq-eqb was.block was.block refl) (and-true is)

    module _ (small : length slots < 2 ^ 64) where
      pub may_set : MaySet marks blocks present n is
      may_set = record {
        within = omega (arith, within, k.fits.marked);
        all = (may_move is_marked present k.fits.all refl refl small).0;
        in_block = λ h. (may_move (is_marked_in was.block) (block_at blocks was.block).present (k.fits.counted.counted was.block h) in_block in_block_now small).0;
      }

      same_block : (m : SlotNumber) → IsSameBlock marks new m
      same_block m = go m (eqb m.0 n.0) refl
        where
          go : (m : SlotNumber) (b : Bool) → eqb m.0 n.0 ≡ b → IsSameBlock marks new m
          go m true f =
              let at : m ≡ n = λ i. record { 0 = eqb-true m.0 n.0 f i } in
              ap (λ j. (mark_at new j).block) at ∙ ap (λ x. x.block) here ∙ ap (λ j. (mark_at marks j).block) (sym at)
          go m false f = ap (λ x. x.block) (set_other marks n mark m (λ h. true≢false (sym (eq-eqb m.0 n.0 (ap (λ j. j.0) h)) ∙ f)))

      same_blocks : Along (IsSameBlock marks new) (slots_from slots first)
      same_blocks = along same_block (slots_from slots first)

      abbrev block : MarkBlock
      block = record {
        present = moved (block_at blocks was.block).present was.is_present is;
        end = (block_at blocks was.block).end;
        least_counter = (block_at blocks was.block).least_counter;
      }

      count : (j : ℕ) → (b : Bool) → eqb j was.block ≡ b → j < length blocks → (block_at (set blocks was.block block) j).present ≡ count_where (is_marked_in j) new (slots_from slots first)
      count j true f h =
          let at : j ≡ was.block = eqb-true j was.block f in
          let inside : was.block < length blocks = omega (arith, at, h) in
          ap (λ i. (block_at (set blocks was.block block) i).present) at
          ∙ ap (λ x. x.present) (get_or-set_same blocks was.block block no_block inside)
          ∙ sym (may_move (is_marked_in was.block) (block_at blocks was.block).present (k.fits.counted.counted was.block inside) in_block in_block_now small).1
          ∙ ap (λ i. count_where (is_marked_in i) new (slots_from slots first)) (sym at)
      count j false f h =
          let apart : was.block ≢ j = λ g. true≢false (sym (eq-eqb j was.block (sym g)) ∙ f) in
          let a = count_is (is_marked_in j) in
          let x : bit (is_marked_in j was) ≡ 0 = ap bit (not_other j was.block apart was.is_present) in
          let y : bit (is_marked_in j mark) ≡ 0 = ap bit (not_other j was.block apart is) in
          let same : count_where (is_marked_in j) marks (slots_from slots first) ≡ count_where (is_marked_in j) new (slots_from slots first) = omega (arith, a, x, y) in
          ap (λ x. x.present) (get_or-set_other blocks was.block j block no_block (λ g. apart (sym g))) ∙ k.fits.counted.counted j h ∙ same

      stays : (j : ℕ) → (b : Bool) → eqb j was.block ≡ b → j < length blocks → (block_at (set blocks was.block block) j).end ≡ (block_at blocks j).end
      stays j true f h =
          let at : j ≡ was.block = eqb-true j was.block f in
          ap (λ i. (block_at (set blocks was.block block) i).end) at
          ∙ ap (λ x. x.end) (get_or-set_same blocks was.block block no_block (omega (arith, at, h)))
          ∙ ap (λ i. (block_at blocks i).end) (sym at)
      stays j false f h = ap (λ x. x.end) (get_or-set_other blocks was.block j block no_block (λ g. true≢false (sym (eq-eqb j was.block g) ∙ f)))

      set_kept : IsMarkedOrder slots first index (set_mark marks n is) (moved_in blocks was.block was.is_present is) (moved present was.is_present is)
      set_kept = record {
        order = k.order;
        own = k.own;
        fits = record {
          walk = k.fits.walk;
          marked = length-set marks n.0 mark ∙ k.fits.marked;
          counted = record {
            rising = rising-same marks new 0 (slots_from slots first) same_blocks k.fits.counted.rising;
            counted = λ j h. count j (eqb j was.block) refl (omega (arith, h, length-set blocks was.block block));
            ends = λ j h. stays j (eqb j was.block) refl (omega (arith, h, length-set blocks was.block block)) ∙ k.fits.counted.ends j (omega (arith, h, length-set blocks was.block block)) ∙ ap (start_of None) (sym (from-same marks new (suc j) (slots_from slots first) same_blocks));
          };
          all = sym (may_move is_marked present k.fits.all refl refl small).1;
          above =
              along-map {P = IsAbove slots marks blocks} {Q = IsAbove slots new (set blocks was.block block)} (λ m a.
              let in_block : (block_at (set blocks was.block block) (mark_at new m).block).least_counter ≡ (block_at blocks (mark_at marks m).block).least_counter =
              ap (λ j. (block_at (set blocks was.block block) j).least_counter) (same_block m) ∙ set_keeps (λ x. x.least_counter) blocks was.block block refl (mark_at marks m).block in
              omega (arith, a, in_block)) (slots_from slots first) k.fits.above;
        };
      }

      pub kept_set : (new_marks : List Mark) → new_marks ≡ set_mark marks n is → (new_blocks : List MarkBlock) → new_blocks ≡ moved_in blocks was.block was.is_present is
          → (new_present : ℕ) → new_present ≡ moved present was.is_present is → IsMarkedOrder slots first index new_marks new_blocks new_present
      kept_set new_marks marks_are new_blocks blocks_are new_present present_is =
          let are : ◌≡◌ {A = List Mark × List MarkBlock × ℕ} (set_mark marks n is, moved_in blocks was.block was.is_present is, moved present was.is_present is) (new_marks, new_blocks, new_present) =
          λ i. (sym marks_are i, sym blocks_are i, sym present_is i) in
          subst (λ t. IsMarkedOrder slots first index t.0 t.1 t.2) are set_kept

    changed : (m : SlotNumber) → m.0 < length slots → (b : Bool) → id_eq (slot_at slots m).id id ≡ b
        → ◌≡◌ {A = Id × Bool} ((slot_at slots m).id, (mark_at new m).is_present) (if b then ((slot_at slots m).id, is) else ((slot_at slots m).id, (mark_at marks m).is_present))
    changed m inside true f =
        let both : ◌≡◌ {A = Option SlotNumber} (Some m) (Some n) = sym (k.own m inside) ∙ ap (get index) (id_decides.same (slot_at slots m).id id f) ∙ e in
        let same : m ≡ n = cc in
        let marked : (mark_at new m).is_present ≡ is = ap (λ j. (mark_at new j).is_present) same ∙ ap (λ x. x.is_present) here in
        λ i. ((slot_at slots m).id, marked i)
    changed m inside false f =
        let apart : m ≢ n = λ g. true≢false (sym (eq_from id_decides (slot_at slots m).id id (ap (λ j. (slot_at slots j).id) g ∙ number_is slots (slots_from slots first) id n along_it)) ∙ f) in
        let marked : (mark_at new m).is_present ≡ (mark_at marks m).is_present = ap (λ x. x.is_present) (set_other marks n mark m apart) in
        λ i. ((slot_at slots m).id, marked i)

    -- the entry of the id is told anew
    pub entries_set : entries_along slots (set_mark marks n is) (slots_from slots first) ≡ with_presence (entries_along slots marks (slots_from slots first)) id is
    entries_set = go first (slots_from slots first) k.order.path
      where
        go : (at : Option SlotNumber) (path : List SlotNumber) → IsPath slots at path → entries_along slots new path ≡ with_presence (entries_along slots marks path) id is
        go at [] p = refl
        go at (m ∷ path) p = λ i. changed m p.1 (id_eq (slot_at slots m).id id) refl i ∷ go (slot_at slots m).next path p.2 i
