-- The front of a log ascends strictly by name.
use Rattle.std.proofs.Common.{◌≡◌, ℕ, List, [], ◌∷◌, Bool, true, refl, ap, Ordering, Less, Equal, Greater, nat_cmp, max}
use Rattle.std.proofs.lemmas.Bool.{and_parts, and_from}
use Rattle.std.proofs.lemmas.Cmp.{nat_list_cmp_total}
use Rattle.std.specs.Cmp.Lexicographic.{slice_cmp}
use Rattle.std.specs.Ordering.{is_lt}
use Rattle.lamport_id.specs.Order.{name_cmp}
use Rattle.lamport_id.specs.declared.id.Id.{Id}
use Rattle.op_core.specs.Op.{Op}
use Rattle.version_vector.specs.Front.{is_ascending}
use Rattle.crdt_rules.specs.Pull.{raise, raise_first, front_of}

-- the name is less than that of the first entry
abbrev is_below : List ℕ → List (List ℕ × ℕ) → Bool
is_below name [] = true
is_below name (e ∷ front) = is_lt (name_cmp name e.0)

ascending_from : (e : List ℕ × ℕ) (front : List (List ℕ × ℕ)) → is_below e.0 front ≡ true → is_ascending front ≡ true → is_ascending (e ∷ front) ≡ true
ascending_from e [] below rest = refl
ascending_from e (d ∷ front) below rest = and_from (is_lt (name_cmp e.0 d.0)) (is_ascending (d ∷ front)) below rest

ascending_parts : (e : List ℕ × ℕ) (front : List (List ℕ × ℕ)) → is_ascending (e ∷ front) ≡ true → (is_below e.0 front ≡ true) × (is_ascending front ≡ true)
ascending_parts e [] h = (refl, refl)
ascending_parts e (d ∷ front) h = and_parts (is_lt (name_cmp e.0 d.0)) (is_ascending (d ∷ front)) h

-- a name below a front and below the id stays below the front that is raised by it
below-raise : (name : List ℕ) (i : Id) (front : List (List ℕ × ℕ)) → is_lt (name_cmp name i.replica) ≡ true → is_below name front ≡ true
    → is_below name (raise i front) ≡ true
below-raise name i [] low below = low
below-raise name i (e ∷ front) low below = by (slice_cmp nat_cmp i.replica e.0)
  where
    by : (o : Ordering) → is_below name (raise_first o i e front (raise i front)) ≡ true
    by Less = low
    by Equal = below
    by Greater = below

ascending-raise : (i : Id) (front : List (List ℕ × ℕ)) → is_ascending front ≡ true → is_ascending (raise i front) ≡ true
ascending-raise i [] h = refl
ascending-raise i (e ∷ front) h =
    by (slice_cmp nat_cmp i.replica e.0) refl (ascending_parts e front h) (ascending-raise i front)
  where
    by : (o : Ordering) → slice_cmp nat_cmp i.replica e.0 ≡ o → (is_below e.0 front ≡ true) × (is_ascending front ≡ true)
        → (is_ascending front ≡ true → is_ascending (raise i front) ≡ true)
        → is_ascending (raise_first o i e front (raise i front)) ≡ true
    by Less is parts ih = ascending_from (i.replica, i.counter) (e ∷ front) (ap is_lt is) h
    by Equal is parts ih = ascending_from (e.0, max e.1 i.counter) front parts.0 parts.1
    by Greater is parts ih =
        let less : slice_cmp nat_cmp e.0 i.replica ≡ Less = let back = nat_list_cmp_total.antisymm e.0 i.replica in rw (back, is) refl in
        ascending_from e (raise i front) (below-raise e.0 i front (ap is_lt less) parts.0) (ih parts.1)

pub front_of-ascending : (log : List Op) → is_ascending (front_of log) ≡ true
front_of-ascending [] = refl
front_of-ascending (o ∷ log) = ascending-raise o.id (front_of log) (front_of-ascending log)
