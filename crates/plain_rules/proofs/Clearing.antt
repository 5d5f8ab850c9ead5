-- Lists with entries taken out, as the presence sets and registers that they are.
use Rattle.std.proofs.Common.{◌≡◌, ℤ, List, [], ◌∷◌, Bool, true, false, ◌&&◌, ◌||◌, not, Some, None, if◌then◌else◌, filter, refl, sym, ap, ◌∙◌}
use Rattle.std.proofs.lemmas.Bool.{and_parts}
use Rattle.std.proofs.Math.Bool.{or-false}
use Rattle.lamport_id.specs.declared.id.Id.{Id}
use Rattle.json_scalar.specs.declared.scalar.Scalar.{Scalar}
use Rattle.op_core.specs.declared.cursor.Key.{Key}
use Rattle.op_core.specs.declared.cursor.Tagged.{Tagged}
use Rattle.op_core.specs.Shape.{key_of}
use Rattle.crdt_rules.specs.Same.{id_eq, key_eq, tagged_eq}
use Rattle.crdt_rules.specs.Context.{Context, empty, node, clear_all, clear_elem}
use Rattle.crdt_rules.proofs.SameLaws.{key_decides, id_decides, tagged_decides}
use Rattle.crdt_rules.proofs.StepFacts.{none_either}
use Rattle.plain_rules.specs.Plain.{present_in, first_value_at, child_in, clear_each, whole}

-- an entry that is of a key and an id has the test's answer for them
test_here : (test : Key → Id → Bool) (a k : Key) (b i : Id) → (key_eq a k && id_eq b i) ≡ true → test a b ≡ test k i
test_here test a k b i h =
    let p = and_parts (key_eq a k) (id_eq b i) h in
    ap (λ x. test x b) (key_decides.same a k p.0) ∙ ap (test k) (id_decides.same b i p.1)

module _ (test : Key → Id → Bool) (k : Key) (i : Id) where
  pub present_in-without : (marks : List (Key × Id))
      → present_in (filter (λ m. not (test m.0 m.1)) marks) k i ≡ (present_in marks k i && not (test k i))
  present_in-without [] = refl
  present_in-without (m ∷ marks) =
      by (test m.0 m.1) (key_eq m.0 k && id_eq m.1 i) refl refl (test_here test m.0 k m.1 i) (present_in-without marks)
    where
      by : (out here : Bool) → test m.0 m.1 ≡ out → (key_eq m.0 k && id_eq m.1 i) ≡ here → (here ≡ true → out ≡ test k i)
          → present_in (filter (λ m. not (test m.0 m.1)) marks) k i ≡ (present_in marks k i && not (test k i))
          → present_in (if not out then m ∷ filter (λ m. not (test m.0 m.1)) marks else filter (λ m. not (test m.0 m.1)) marks) k i
          ≡ ((present_in marks k i || here) && not (test k i))
      by true true o h same ih = ih ∙ rw (sym (same refl)) (none (present_in marks k i))
        where
          none : (b : Bool) → (b && false) ≡ ((b || true) && false)
          none true = refl
          none false = refl
      by true false o h same ih = ih ∙ ap (λ b. b && not (test k i)) (sym (or-false (present_in marks k i)))
      by false true o h same ih = rw h (rw (sym (same refl)) (both (present_in (filter (λ m. not (test m.0 m.1)) marks) k i) (present_in marks k i)))
        where
          both : (a b : Bool) → (a || true) ≡ ((b || true) && true)
          both true true = refl
          both true false = refl
          both false true = refl
          both false false = refl
      by false false o h same ih = rw h (ap (λ b. b || false) ih ∙ kept (present_in marks k i) (not (test k i)))
        where
          kept : (a b : Bool) → ((a && b) || false) ≡ ((a || false) && b)
          kept true true = refl
          kept true false = refl
          kept false b = refl

  pub value_in-without : {X : Type 0} (entries : List (Key × Id × X))
      → first_value_at (filter (λ e. not (test e.0 e.1)) entries) k i ≡ (if test k i then None else first_value_at entries k i)
  value_in-without [] = sym (none_either (test k i))
  value_in-without (e ∷ entries) =
      by (test e.0 e.1) (key_eq e.0 k && id_eq e.1 i) refl refl (test_here test e.0 k e.1 i) (value_in-without entries)
    where
      by : (out here : Bool) → test e.0 e.1 ≡ out → (key_eq e.0 k && id_eq e.1 i) ≡ here → (here ≡ true → out ≡ test k i)
          → first_value_at (filter (λ e. not (test e.0 e.1)) entries) k i ≡ (if test k i then None else first_value_at entries k i)
          → first_value_at (if not out then e ∷ filter (λ e. not (test e.0 e.1)) entries else filter (λ e. not (test e.0 e.1)) entries) k i
          ≡ (if test k i then None else if here then Some e.2 else first_value_at entries k i)
      by true true o h same ih = ih ∙ rw (sym (same refl)) refl
      by true false o h same ih = ih
      by false true o h same ih = rw h (rw (sym (same refl)) refl)
      by false false o h same ih = rw h ih

pub child_in-cleared : (at : Key → Bool) (deps : Id → Bool) (children : List (Tagged × Context)) (t : Tagged)
    → child_in (clear_each at deps children) t ≡ (if at (key_of t) then clear_all deps (child_in children t) else child_in children t)
child_in-cleared at deps [] t = none (at (key_of t))
  where
    none : (b : Bool) → ◌≡◌ {A = Context} empty (if b then empty else empty)
    none true = refl
    none false = refl
child_in-cleared at deps (c ∷ children) t = by (tagged_eq c.0 t) (tagged_decides.same c.0 t) (child_in-cleared at deps children t)
  where
    by : (here : Bool) → (here ≡ true → c.0 ≡ t)
        → child_in (clear_each at deps children) t ≡ (if at (key_of t) then clear_all deps (child_in children t) else child_in children t)
        → (if here then (if at (key_of c.0) then clear_all deps c.1 else c.1) else child_in (clear_each at deps children) t)
        ≡ (if at (key_of t) then clear_all deps (if here then c.1 else child_in children t) else if here then c.1 else child_in children t)
    by true same ih = ap (λ s. if at (key_of s) then clear_all deps c.1 else c.1) (same refl)
    by false same ih = ih

-- what is left of a context of which all ids of deps are taken out
pub whole-clear_all : (deps : Id → Bool) (children : List (Tagged × Context)) (scalars : List (Key × Id × Scalar)) (numbers : List (Key × Id × ℤ)) (marks : List (Key × Id)) (order : List Id)
    → whole (clear_each (λ _. true) deps children) (filter (λ e. not (deps e.1)) scalars) (filter (λ e. not (deps e.1)) numbers) (filter (λ m. not (deps m.1)) marks) order
    ≡ clear_all deps (whole children scalars numbers marks order)
whole-clear_all deps children scalars numbers marks order = λ x.
    node
    (λ t. child_in-cleared (λ _. true) deps children t x)
    (λ k i. value_in-without (λ _ j. deps j) k i scalars x)
    (λ k i. value_in-without (λ _ j. deps j) k i numbers x)
    (λ k i. present_in-without (λ _ j. deps j) k i marks x)
    order

pub whole-clear_elem : (deps : Id → Bool) (key : Key) (children : List (Tagged × Context)) (scalars : List (Key × Id × Scalar)) (numbers : List (Key × Id × ℤ)) (marks : List (Key × Id)) (order : List Id)
    → whole (clear_each (λ k. key_eq k key) deps children) (filter (λ e. not (key_eq e.0 key && deps e.1)) scalars) (filter (λ e. not (key_eq e.0 key && deps e.1)) numbers) (filter (λ m. not (key_eq m.0 key && deps m.1)) marks) order
    ≡ clear_elem deps key (whole children scalars numbers marks order)
whole-clear_elem deps key children scalars numbers marks order = λ x.
    node
    (λ t. child_in-cleared (λ k. key_eq k key) deps children t x)
    (λ k i. value_in-without (λ a j. key_eq a key && deps j) k i scalars x)
    (λ k i. value_in-without (λ a j. key_eq a key && deps j) k i numbers x)
    (λ k i. present_in-without (λ a j. key_eq a key && deps j) k i marks x)
    order
