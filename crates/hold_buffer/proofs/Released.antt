-- What a logged id releases, entry by entry.
use Rattle.std.proofs.Common.{◌≡◌, ◌≢◌, ◌++◌, ◌∷◌, ◌<◌, inl, inr, ℕ, zero, suc, arith, List, [], length, map, filter, take, drop, set, get_or, not, Some, None, Contains, refl, sym, ap, subst, ◌∙◌, Less}
use Rattle.std.proofs.lemmas.List.{set_split, map-append}
use Rattle.std.proofs.lemmas.List.Elements.{Contains-append_left, Contains-append_right, Contains-append_cases}
use Rattle.slab.specs.Slab.{Slab, get}
use Rattle.doc_api.specs.Words.{id_cmp, Id, Op}
use Rattle.crdt_rules.specs.Same.{id_eq}
use Rattle.crdt_rules.proofs.Tests.{some_same, some≢none}
use Rattle.crdt_rules.proofs.WalkLaws.{id_order}
use Rattle.doc_rules.specs.Sorted.{IsRising}
use Rattle.list_laws.proofs.Members.{Contains-here, Contains-there, Contains-cases, Contains-map, map-from, split_at}
use Rattle.list_laws.specs.Sorted.{IsGap}
use Rattle.list_laws.proofs.Keys.{less≢equal}
use Rattle.list_laws.proofs.Rising.{gap_none, IsRising-split}
use Rattle.hold_buffer.specs.Order.{IsOrdered, without_id}
use Rattle.hold_buffer.specs.declared.entry.Entry.{Entry}
use Rattle.hold_buffer.proofs.Names.{none_forgotten}
use Rattle.hold_buffer.proofs.Noted.{kept_other}

-- twice without an id is once
without_twice : (id : Id) (t : Entry) → without_id id (without_id id t) ≡ without_id id t
without_twice id t =
    let ids = filter (λ i. not (id_eq i id)) t.missing in
    ap (λ (l : List Id). record t { missing = l }) (sym (none_forgotten ids id (λ c. (kept_other (λ (i : Id). i) id t.missing c).1 refl)))

-- an entry that does not wait for it stays as it is
pub without_same : (id : Id) (t : Entry) → ¬ (Contains t.missing id) → t ≡ without_id id t
without_same id t none = ap (λ (l : List Id). record t { missing = l }) (none_forgotten t.missing id none)

without_all : (id : Id) (order : List Entry) → ((t : Entry) → Contains order t → ¬ (Contains t.missing id)) → order ≡ map (without_id id) order
without_all id [] none = refl
without_all id (t ∷ order) none =
    λ j. without_same id t (none t (Contains-here order refl)) j ∷ without_all id order (λ u c. none u (Contains-there t order c)) j

-- once each that waits for it was told, all are without it
pub all_released : (id : Id) (old new : List Entry) → map (without_id id) new ≡ map (without_id id) old → ((t : Entry) → Contains new t → ¬ (Contains t.missing id))
    → new ≡ map (without_id id) old
all_released id old new same none = without_all id new none ∙ same

-- what is the same but for an id is as ordered
pub ordered_same : {slots : Slab Op} (id : Id) (old new : List Entry) → map (without_id id) new ≡ map (without_id id) old → IsOrdered slots old → IsOrdered slots new
ordered_same {slots} id old new same is = record {
  rising = from new (subst (IsRising id_cmp (λ (t : Entry). t.id)) (sym same) (to old is.rising));
  right = λ t c.
      let r = map-from (without_id id) old (subst (λ (l : List Entry). Contains l (without_id id t)) same (Contains-map (without_id id) new c)) in
      let s = is.right r.0 r.1 in
      (s.0, ap (λ (u : Entry). get slots u.key) (sym r.2) ∙ s.1, s.2 ∙ ap (λ (u : Entry). u.id) r.2);
}
  where
    to : (ts : List Entry) → IsRising id_cmp (λ t. t.id) ts → IsRising id_cmp (λ t. t.id) (map (without_id id) ts)
    to [] rising = tt
    to (t ∷ ts) rising = (
      (λ u c. let r = map-from (without_id id) ts c in subst (λ (v : Entry). id_cmp t.id v.id ≡ Less) r.2 (rising.0 r.0 r.1)),
      to ts rising.1,
    )

    from : (ts : List Entry) → IsRising id_cmp (λ t. t.id) (map (without_id id) ts) → IsRising id_cmp (λ t. t.id) ts
    from [] rising = tt
    from (t ∷ ts) rising = ((λ u c. rising.0 (without_id id u) (Contains-map (without_id id) ts c)), from ts rising.1)

-- ---- the operation of one key

-- of no key in use
pub none_there : {slots : Slab Op} {order : List Entry} → IsOrdered slots order → (key : ℕ) → get slots key ≡ None → (t : Entry) → Contains order t → t.key ≢ key
none_there {slots} is key none t c same = let r = is.right t c in some≢none (sym r.1 ∙ ap (get slots) same ∙ none)

pub none_named : {slots : Slab Op} {order : List Entry} → IsOrdered slots order → (key : ℕ) (op : Op) (at : ℕ) → get slots key ≡ Some op → IsGap id_cmp (λ t. t.id) order op.id at
    → (t : Entry) → Contains order t → t.key ≢ key
none_named {slots} {order} is key op at held gap t c same =
    let r = is.right t c in
    gap_none id_order (λ (u : Entry). u.id) order op.id at gap t c (sym r.2 ∙ ap (λ (o : Op). o.id) (some_same (sym r.1 ∙ ap (get slots) same ∙ held)))

module _ {slots : Slab Op} {order : List Entry} (is : IsOrdered slots order) (id : Id) (at : ℕ) (t : Entry) (within : at < length order) (read : t ≡ get_or order at t) where
  whole : take at order ++ t ∷ drop (suc at) order ≡ order
  whole = split_at order at t within read

  pub now_split : set order at (without_id id t) ≡ take at order ++ without_id id t ∷ drop (suc at) order
  now_split = set_split order at (without_id id t) within

  pub one_same : map (without_id id) (set order at (without_id id t)) ≡ map (without_id id) order
  one_same =
      ap (map (without_id id)) now_split
      ∙ map-append (without_id id) (take at order) (without_id id t ∷ drop (suc at) order)
      ∙ (λ j. map (without_id id) (take at order) ++ without_twice id t j ∷ map (without_id id) (drop (suc at) order))
      ∙ sym (map-append (without_id id) (take at order) (t ∷ drop (suc at) order))
      ∙ ap (map (without_id id)) whole

  -- the entries that still wait for it are old ones of other keys
  pub one_released : (key : ℕ) (op : Op) → get slots key ≡ Some op → op.id ≡ t.id → (u : Entry) → Contains (set order at (without_id id t)) u → Contains u.missing id
      → Contains order u × (u.key ≢ key)
  one_released key op held name u c waits =
      elim (Contains-append_cases (take at order) (without_id id t ∷ drop (suc at) order) u (subst (λ (l : List Entry). Contains l u) now_split c)) [
        | inl left ↦ old u (Contains-append_left (take at order) (t ∷ drop (suc at) order) u left) (less≢equal id_order u.id t.id (parts.0 u left))
        | inr right ↦ elim (Contains-cases (without_id id t) (drop (suc at) order) right) [
          | inl here ↦ absurd ((kept_other (λ (i : Id). i) id t.missing (subst (λ (v : Entry). Contains v.missing id) (sym here) waits)).1 refl)
          | inr there ↦
              old u (Contains-append_right (take at order) (t ∷ drop (suc at) order) u (Contains-there t (drop (suc at) order) there))
              (λ same. less≢equal id_order t.id u.id (parts.1 u there) (sym same))
        ]
      ]
    where
      parts : ((u : Entry) → Contains (take at order) u → id_cmp u.id t.id ≡ Less) × ((v : Entry) → Contains (drop (suc at) order) v → id_cmp t.id v.id ≡ Less)
          × IsRising id_cmp (λ (u : Entry). u.id) (take at order ++ drop (suc at) order)
      parts = IsRising-split id_order (λ (u : Entry). u.id) (take at order) (drop (suc at) order) t (subst (IsRising id_cmp (λ (u : Entry). u.id)) (sym whole) is.rising)

      old : (u : Entry) → Contains (take at order ++ t ∷ drop (suc at) order) u → u.id ≢ t.id → Contains order u × (u.key ≢ key)
      old u among other =
          let d = subst (λ (l : List Entry). Contains l u) whole among in
          let r = is.right u d in (
            d,
            (λ same. other (sym r.2 ∙ ap (λ (o : Op). o.id) (some_same (sym r.1 ∙ ap (get slots) same ∙ held)) ∙ name)),
          )

-- what was written is read
read_set : (order : List Entry) (at : ℕ) (x u : Entry) → at < length order → u ≡ get_or (set order at x) at u → u ≡ x
read_set [] at x u within read = absurd (omega arith)
read_set (y ∷ order) zero x u within read = read
read_set (y ∷ order) (suc at) x u within read = read_set order at x u (omega arith) read

module _ (order new : List Entry) (at : ℕ) (t : Entry) (id : Id) (within : at < length order) (read : t ≡ get_or order at t) (written : (d : Entry) → new ≡ set order at (without_id id (get_or order at d))) where
  one_written : new ≡ set order at (without_id id t)
  one_written = written t ∙ ap (λ (u : Entry). set order at (without_id id u)) (sym read)

  pub new_split : new ≡ take at order ++ without_id id t ∷ drop (suc at) order
  new_split = one_written ∙ set_split order at (without_id id t) within

  pub new_read : (u : Entry) → u ≡ get_or new at u → u ≡ without_id id t
  new_read u is = read_set order at (without_id id t) u within (is ∙ ap (λ (l : List Entry). get_or l at u) one_written)
