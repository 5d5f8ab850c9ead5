-- In a good log no id stands twice, so an id names one operation.
use Rattle.std.proofs.Common.{◌≡◌, ◌≢◌, inl, inr, List, [], ◌∷◌, map, Bool, true, false, ◌&&◌, ◌||◌, cond, Some, None, Contains, refl, sym, ap, subst, ◌∙◌}
use Rattle.std.specs.Prelude.{is_some}
use Rattle.std.specs.List.{list_any}
use Rattle.std.proofs.lemmas.Bool.{and_parts, false_from_ne_true}
use Rattle.std.proofs.Math.Bool.{or-false}
use Rattle.doc_api.specs.Words.{Id, Op, Tagged}
use Rattle.list_laws.specs.Order.{EachOnce}
use Rattle.crdt_rules.specs.Effect.{is_insertion}
use Rattle.crdt_rules.specs.Facts.{inserts}
use Rattle.crdt_rules.specs.Fits.{is_element}
use Rattle.crdt_rules.specs.Same.{id_eq, path_eq}
use Rattle.doc_rules.specs.Replica.{find_id}
use Rattle.crdt_rules.specs.Dependencies.{is_logged}
use Rattle.list_laws.proofs.Members.{Contains-nil, Contains-here, Contains-there, Contains-cases, Contains-map}
use Rattle.crdt_rules.proofs.SameLaws.{id_decides}
use Rattle.crdt_rules.proofs.Tests.{any_none}
use Rattle.crdt_rules.proofs.Tests.{some_same, some≢none}

-- the ids of a log, each once
abbrev pub IdsOnce : List Op → Type 0
IdsOnce log = EachOnce (map (λ o. o.id) log)

ids_differ : (a b : Id) → a ≢ b → id_eq a b ≡ false
ids_differ a b other = false_from_ne_true (id_eq a b) (λ h. other (id_decides.same a b h))

-- a logged operation is the one of its id
pub find_id-Contains : (log : List Op) (i : Id) {o : Op} → IdsOnce log → Contains log o → o.id ≡ i → find_id log i ≡ Some o
find_id-Contains [] i once c is = absurd (Contains-nil c)
find_id-Contains (z ∷ log) i {o} once c is =
    elim (Contains-cases z log c) [
      | inl here ↦
          let same : id_eq z.id i ≡ true = subst (λ j. id_eq z.id j ≡ true) (ap (λ x. x.id) here ∙ is) (id_decides.itself z.id) in
          rw same (ap (λ (x : Op). Some x) here)
      | inr there ↦
          let other : z.id ≢ i = λ e. once.0 (subst (Contains (map (λ x. x.id) log)) (is ∙ sym e) (Contains-map (λ (x : Op). x.id) log there)) in
          rw (ids_differ z.id i other) (find_id-Contains log i once.1 there is)
    ]

pub find_id-none : (log : List Op) (i : Id) → ((o : Op) → Contains log o → o.id ≢ i) → find_id log i ≡ None
find_id-none [] i none = refl
find_id-none (z ∷ log) i none =
    rw (ids_differ z.id i (none z (Contains-here log refl))) (find_id-none log i (λ o c. none o (Contains-there z log c)))

-- what was found is logged, and has the id
pub find_id-Some : (log : List Op) (i : Id) (x : Op) → find_id log i ≡ Some x → Contains log x × (x.id ≡ i)
find_id-Some [] i x h = absurd (some≢none (sym h))
find_id-Some (z ∷ log) i x h = by (id_eq z.id i) refl h (find_id-Some log i x)
  where
    by : (b : Bool) → id_eq z.id i ≡ b → cond b (Some z) (find_id log i) ≡ Some x → (find_id log i ≡ Some x → Contains log x × (x.id ≡ i))
        → Contains (z ∷ log) x × (x.id ≡ i)
    by true same found ih =
        let e : z ≡ x = some_same found in
        (Contains-here log e, sym (ap (λ o. o.id) e) ∙ id_decides.same z.id i same)
    by false other found ih = let r = ih found in (Contains-there z log r.0, r.1)

pub is_logged-find_id : (log : List Op) (i : Id) → is_logged log i ≡ is_some (find_id log i)
is_logged-find_id [] i = refl
is_logged-find_id (z ∷ log) i = by (id_eq z.id i) (is_logged-find_id log i)
  where
    by : (b : Bool) → is_logged log i ≡ is_some (find_id log i) → (b || is_logged log i) ≡ is_some (cond b (Some z) (find_id log i))
    by true ih = refl
    by false ih = ih

-- a test of the operations of one id is a test of the one that is found
module _ (test : Op → Bool) where
  pub any-find_id : (log : List Op) (i : Id) (x : Op) → IdsOnce log → find_id log i ≡ Some x → list_any (λ o. id_eq o.id i && test o) log ≡ test x
  any-find_id [] i x once h = absurd (some≢none (sym h))
  any-find_id (z ∷ log) i x once h = by (id_eq z.id i) refl h (any-find_id log i x once.1)
    where
      by : (b : Bool) → id_eq z.id i ≡ b → cond b (Some z) (find_id log i) ≡ Some x
          → (find_id log i ≡ Some x → list_any (λ o. id_eq o.id i && test o) log ≡ test x)
          → ((b && test z) || list_any (λ o. id_eq o.id i && test o) log) ≡ test x
      by true same found ih =
          let is : z.id ≡ i = id_decides.same z.id i same in
          let none : list_any (λ o. id_eq o.id i && test o) log ≡ false =
          any_none (λ o. id_eq o.id i && test o) log
          (λ o c. false_from_ne_true (id_eq o.id i && test o)
          (λ both. once.0 (subst (Contains (map (λ y. y.id) log)) (id_decides.same o.id i (and_parts (id_eq o.id i) (test o) both).0 ∙ sym is) (Contains-map (λ (y : Op). y.id) log c)))) in
          ap (λ b. test z || b) none ∙ or-false (test z) ∙ ap test (some_same found)
      by false other found ih = ih found

  pub any-find_id_none : (log : List Op) (i : Id) → find_id log i ≡ None → list_any (λ o. id_eq o.id i && test o) log ≡ false
  any-find_id_none [] i h = refl
  any-find_id_none (z ∷ log) i h = by (id_eq z.id i) h (any-find_id_none log i)
    where
      by : (b : Bool) → cond b (Some z) (find_id log i) ≡ None → (find_id log i ≡ None → list_any (λ o. id_eq o.id i && test o) log ≡ false)
          → ((b && test z) || list_any (λ o. id_eq o.id i && test o) log) ≡ false
      by true h ih = absurd (some≢none h)
      by false h ih = ih h

-- a test of two parts and then a third is one of the first and the two others
and_assoc : (a b c : Bool) → (a && b && c) ≡ (a && (b && c))
and_assoc true b c = refl
and_assoc false b c = refl

-- whether an id is an element of a list is told by the operation of that id
pub is_element-found : (log : List Op) (p : List Tagged) (i : Id) (x : Op) → IdsOnce log → find_id log i ≡ Some x → is_element log p i ≡ inserts x p
is_element-found log p i x once h =
    (λ j. list_any (λ o. and_assoc (id_eq o.id i) (is_insertion o.mutation) (path_eq o.cursor.path p) j) log)
    ∙ any-find_id (λ o. inserts o p) log i x once h

pub is_element-none : (log : List Op) (p : List Tagged) (i : Id) → find_id log i ≡ None → is_element log p i ≡ false
is_element-none log p i h =
    (λ j. list_any (λ o. and_assoc (id_eq o.id i) (is_insertion o.mutation) (path_eq o.cursor.path p) j) log)
    ∙ any-find_id_none (λ o. inserts o p) log i h
