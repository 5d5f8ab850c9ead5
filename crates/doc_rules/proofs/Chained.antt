-- What is in a chain, and how its first operation leads to the others.
use Rattle.std.proofs.Common.{◌≡◌, ℕ, ◌<◌, ◌≤◌, zero, suc, List, [], ◌∷◌, filter, bytes_eq, nat_lt, nat_le, ◌&&◌, Bool, true, false, Some, if◌then◌else◌, refl, sym, ap, ◌∙◌, arith}
use Rattle.std.specs.List.{slice_get}
use Rattle.std.proofs.lemmas.Slice.Eq.{bytes_eq-Decides}
use Rattle.std.proofs.lemmas.Bool.Decides.{nat_tests}
use Rattle.doc_api.specs.Words.{Op}
use Rattle.crdt_rules.proofs.Tests.{some_same, some≢none}
use Rattle.doc_rules.specs.Chains.{is_between, chain_between}

-- ---- what two tests keep of a list

module _ {X : Type 0} where
  pub filter_nothing : (p : X → Bool) (xs : List X) → ((j : ℕ) (y : X) → slice_get xs j ≡ Some y → p y ≡ false) → filter p xs ≡ []
  filter_nothing p [] none = refl
  filter_nothing p (x ∷ xs) none = rw (none 0 x refl) (filter_nothing p xs (λ j y there. none (suc j) y there))

  filter_alike : (p q : X → Bool) (xs : List X) → ((j : ℕ) (y : X) → slice_get xs j ≡ Some y → p y ≡ q y) → filter p xs ≡ filter q xs
  filter_alike p q [] same = refl
  filter_alike p q (x ∷ xs) same =
      let rest = filter_alike p q xs (λ j y there. same (suc j) y there) in
      λ i. if◌then◌else◌ {A = List X} (same 0 x refl i) (x ∷ rest i) (rest i)

  -- the first that one test keeps, behind which both keep the same
  pub filter_first : (p q : X → Bool) (xs : List X) (k : ℕ) (x : X) → slice_get xs k ≡ Some x → p x ≡ true → q x ≡ false
      → ((j : ℕ) (y : X) → slice_get xs j ≡ Some y → j < k → (p y ≡ false) × (q y ≡ false))
      → ((j : ℕ) (y : X) → slice_get xs j ≡ Some y → k < j → p y ≡ q y)
      → filter p xs ≡ x ∷ filter q xs
  filter_first p q [] k x there is other before behind = absurd (some≢none (sym there))
  filter_first p q (z ∷ xs) zero x there is other before behind =
      let same : z ≡ x = some_same there in
      let kept : p z ≡ true = ap p same ∙ is in
      let left : q z ≡ false = ap q same ∙ other in
      rw (kept, left) (λ i. same i ∷ filter_alike p q xs (λ j y here. behind (suc j) y here (omega arith)) i)
  filter_first p q (z ∷ xs) (suc k) x there is other before behind =
      let first = before 0 z refl (omega arith) in
      rw (first.0, first.1)
      (filter_first p q xs k x there is other
      (λ j y here below. before (suc j) y here (omega arith))
      (λ j y here beyond. behind (suc j) y here (omega arith)))

-- ---- by the counters

pub above_none : (a b c : ℕ) → c ≤ a → (nat_lt a c && nat_le c b) ≡ false
above_none a b c le = grind (arith, nat_tests)

above_both : (a b c d : ℕ) → a < d → b < d → (nat_lt a d && nat_le d c) ≡ (nat_lt b d && nat_le d c)
above_both a b c d first second = grind (arith, nat_tests)

above_here : (a b c : ℕ) → a < c → c ≤ b → (nat_lt a c && nat_le c b) ≡ true
above_here a b c first second = grind (arith, nat_tests)

pub beyond_none : (a b c : ℕ) → b < c → (nat_lt a c && nat_le c b) ≡ false
beyond_none a b c more = grind (arith, nat_tests)

no_room : (a b c : ℕ) → b ≤ a → (nat_lt a c && nat_le c b) ≡ false
no_room a b c le = grind (arith, nat_tests)

-- no operation is of the chain, where none of the replica is
not_between : (name : List ℕ) (above last : ℕ) (op : Op) → (op.id.replica ≡ name → (nat_lt above op.id.counter && nat_le op.id.counter last) ≡ false) → is_between name above last op.id ≡ false
not_between name above last op none = by (bytes_eq op.id.replica name) (bytes_eq-Decides op.id.replica name).0
  where
    by : (b : Bool) → (b ≡ true → op.id.replica ≡ name) → (b && (nat_lt above op.id.counter && nat_le op.id.counter last)) ≡ false
    by true is = none (is refl)
    by false is = refl

-- one of the replica in the range is
between_here : (name : List ℕ) (above last : ℕ) (op : Op) → op.id.replica ≡ name → above < op.id.counter → op.id.counter ≤ last → is_between name above last op.id ≡ true
between_here name above last op made higher up_to = rw ((bytes_eq-Decides op.id.replica name).1 made, above_here above last op.id.counter higher up_to) refl

-- above two counters both ranges are one
between_alike : (name : List ℕ) (a b last : ℕ) (op : Op) → (op.id.replica ≡ name → (a < op.id.counter) × (b < op.id.counter)) → is_between name a last op.id ≡ is_between name b last op.id
between_alike name a b last op rises = by (bytes_eq op.id.replica name) (bytes_eq-Decides op.id.replica name).0
  where
    by : (e : Bool) → (e ≡ true → op.id.replica ≡ name) → (e && (nat_lt a op.id.counter && nat_le op.id.counter last)) ≡ (e && (nat_lt b op.id.counter && nat_le op.id.counter last))
    by true is = let higher = rises (is refl) in above_both a b last op.id.counter higher.0 higher.1
    by false is = refl

module _ (name : List ℕ) (above last : ℕ) (log : List Op) where
  -- where no operation of the replica is in the range
  pub chain_nothing : ((k : ℕ) (op : Op) → slice_get log k ≡ Some op → op.id.replica ≡ name → (nat_lt above op.id.counter && nat_le op.id.counter last) ≡ false)
      → chain_between name above last log ≡ []
  chain_nothing none = filter_nothing _ log (λ j y there. not_between name above last y (none j y there))

  -- where there is no range
  pub chain_ended : last ≤ above → chain_between name above last log ≡ []
  chain_ended le = chain_nothing (λ k op there made. no_room above last op.id.counter le)

  -- the first of the replica above, if it is in the range
  pub chain_first : (k : ℕ) (op : Op) → slice_get log k ≡ Some op → op.id.replica ≡ name → above < op.id.counter → op.id.counter ≤ last
      → ((j : ℕ) (y : Op) → slice_get log j ≡ Some y → y.id.replica ≡ name → j < k → y.id.counter ≤ above)
      → ((j : ℕ) (y : Op) → slice_get log j ≡ Some y → y.id.replica ≡ name → k < j → op.id.counter < y.id.counter)
      → chain_between name above last log ≡ op ∷ chain_between name op.id.counter last log
  chain_first k op there made higher up_to before behind =
      filter_first (λ o. is_between name above last o.id) (λ o. is_between name op.id.counter last o.id) log k op there
      (between_here name above last op made higher up_to)
      (not_between name op.id.counter last op (λ _. above_none op.id.counter last op.id.counter (omega arith)))
      (λ j y at below. (
        not_between name above last y (λ is. above_none above last y.id.counter (before j y at is below)),
        not_between name op.id.counter last y (λ is. let low : y.id.counter ≤ above = before j y at is below in above_none op.id.counter last y.id.counter (omega arith)),
      ))
      (λ j y at beyond. between_alike name above op.id.counter last y
      (λ is. let rises : op.id.counter < y.id.counter = behind j y at is beyond in (omega arith, rises)))
