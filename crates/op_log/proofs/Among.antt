-- Which ids the first operations of a log have.
use Rattle.std.proofs.Common.{◌≡◌, ℕ, zero, suc, ◌<◌, ◌≤◌, List, [], ◌∷◌, map, take, Bool, true, false, ◌||◌, cond, Some, None, Contains, refl, sym, ap, subst, ◌∙◌, inl, inr, arith}
use Rattle.std.proofs.Math.Dec.{ltb}
use Rattle.std.proofs.lemmas.Bool.{cases_lt, le-ltb, lt-ltb}
use Rattle.std.specs.List.{slice_get}
use Rattle.list_laws.proofs.Members.{Contains-map}
use Rattle.list_laws.proofs.Scanning.{Contains-from_slice_get}
use Rattle.doc_api.specs.Words.{Id, Op}
use Rattle.crdt_rules.specs.Dependencies.{is_logged}
use Rattle.crdt_rules.specs.Same.{id_eq}
use Rattle.crdt_rules.proofs.SameLaws.{id_decides}
use Rattle.crdt_rules.proofs.Tests.{some_same, some≢none}
use Rattle.doc_rules.specs.Replica.{find_id}
use Rattle.op_log.proofs.Ids.{IdsOnce, find_id-Some}

-- what a log doesn't have isn't among its first
pub none_among : (log : List Op) (i : Id) (n : ℕ) → find_id log i ≡ None → is_logged (take n log) i ≡ false
none_among [] i zero none = refl
none_among [] i (suc n) none = refl
none_among (z ∷ log) i zero none = refl
none_among (z ∷ log) i (suc n) none = by (id_eq z.id i) none (none_among log i n)
  where
    by : (b : Bool) → cond b (Some z) (find_id log i) ≡ None → (find_id log i ≡ None → is_logged (take n log) i ≡ false)
        → (b || is_logged (take n log) i) ≡ false
    by true found ih = absurd (some≢none found)
    by false none ih = ih none

-- what it has is among its first where its place is
among_yes : (log : List Op) (i : Id) (n k : ℕ) (op : Op) → slice_get log k ≡ Some op → op.id ≡ i → k < n → is_logged (take n log) i ≡ true
among_yes [] i n k op at is less = absurd (some≢none (sym at))
among_yes (z ∷ log) i zero k op at is less = absurd (omega (arith, less))
among_yes (z ∷ log) i (suc n) zero op at is less =
    let same : id_eq z.id i ≡ true = subst (λ j. id_eq z.id j ≡ true) (ap (λ (o : Op). o.id) (some_same at) ∙ is) (id_decides.itself z.id) in
    rw same refl
among_yes (z ∷ log) i (suc n) (suc k) op at is less = by (id_eq z.id i) (among_yes log i n k op at is (omega (arith, less)))
  where
    by : (b : Bool) → is_logged (take n log) i ≡ true → (b || is_logged (take n log) i) ≡ true
    by true rest = refl
    by false rest = rest

among_no : (log : List Op) (i : Id) (n k : ℕ) (op : Op) → IdsOnce log → slice_get log k ≡ Some op → find_id log i ≡ Some op → n ≤ k → is_logged (take n log) i ≡ false
among_no log i zero k op once at found behind = refl
among_no [] i (suc n) k op once at found behind = absurd (some≢none (sym at))
among_no (z ∷ log) i (suc n) zero op once at found behind = absurd (omega (arith, behind))
among_no (z ∷ log) i (suc n) (suc k) op once at found behind = by (id_eq z.id i) found (λ first. among_no log i n k op once.1 at first (omega (arith, behind)))
  where
    by : (b : Bool) → cond b (Some z) (find_id log i) ≡ Some op → (find_id log i ≡ Some op → is_logged (take n log) i ≡ false)
        → (b || is_logged (take n log) i) ≡ false
    by true first ih =
        absurd (once.0 (subst (Contains (map (λ x. x.id) log)) (sym (ap (λ (o : Op). o.id) (some_same first)))
        (Contains-map (λ (x : Op). x.id) log (Contains-from_slice_get log k op at))))
    by false first ih = ih first

pub found_among : (log : List Op) (i : Id) (n k : ℕ) (op : Op) → IdsOnce log → slice_get log k ≡ Some op → find_id log i ≡ Some op
    → ltb k n ≡ is_logged (take n log) i
found_among log i n k op once at found =
    elim (cases_lt k n) [
      | inl less ↦ lt-ltb k n less ∙ sym (among_yes log i n k op at (find_id-Some log i op found).1 less)
      | inr behind ↦ le-ltb k n behind ∙ sym (among_no log i n k op once at found behind)
    ]
