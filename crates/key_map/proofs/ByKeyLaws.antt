-- Laws of numbers by key.
use Rattle.std.proofs.Common.{◌≡◌, ◌<◌, ◌≤◌, List, [], ◌∷◌, length, get_or, Contains, true, false, if◌then◌else◌, Some, None, refl, sym, ap, ◌∙◌, arith}
use Rattle.op_core.specs.declared.cursor.Key.{Key}
use Rattle.crdt_rules.specs.Same.{key_eq}
use Rattle.std.specs.Prelude.{insert}
use Rattle.list_laws.specs.Sorted.{get_by}
use Rattle.list_laws.proofs.Bisection.{get-own, get-Contains, get-rank, get-missing}
use Rattle.list_laws.proofs.Insertion.{get-insert_rank, rising-insert}
use Rattle.key_map.specs.ByKey.{at_key}
use Rattle.key_map.specs.KeyOrder.{key_rank, IsInKeyOrder}
use Rattle.key_map.proofs.KeyOrder.{keys_ordered}

module _ {V : Type 0} where
  -- the value at a key is that of its entry
  pub at_key-get_by : (entries : List (Key × V)) (k : Key) → at_key entries k ≡ get_by key_eq entries k
  at_key-get_by [] k = refl
  at_key-get_by (e ∷ entries) k = ap (λ o. if key_eq e.0 k then Some e.1 else o) (at_key-get_by entries k)

  module _ (entries : List (Key × V)) where
    -- the value of each entry is found by its key
    pub at_key-own : IsInKeyOrder entries → (e : Key × V) → Contains entries e → at_key entries e.0 ≡ Some e.1
    at_key-own rising e c = at_key-get_by entries e.0 ∙ get-own keys_ordered entries rising e c

    -- and each value that is found is in an entry
    pub at_key-Contains : (k : Key) (n : V) → at_key entries k ≡ Some n → Contains entries (k, n)
    at_key-Contains k n e = get-Contains keys_ordered entries k n (sym (at_key-get_by entries k) ∙ e)

    -- so is one that is inserted at its rank
    pub at_key-insert_rank : (k : Key) (n : V) (j : Key) → at_key entries k ≡ None
        → at_key (insert entries (key_rank entries k) (k, n)) j ≡ (if key_eq k j then Some n else at_key entries j)
    at_key-insert_rank k n j none =
        at_key-get_by (insert entries (key_rank entries k) (k, n)) j
        ∙ get-insert_rank keys_ordered entries k n j (sym (at_key-get_by entries k) ∙ none)
        ∙ ap (λ o. if key_eq k j then Some n else o) (sym (at_key-get_by entries j))

    pub rising-insert_rank : (k : Key) (n : V) → IsInKeyOrder entries → at_key entries k ≡ None → IsInKeyOrder (insert entries (key_rank entries k) (k, n))
    rising-insert_rank k n rising none = rising-insert keys_ordered entries k n rising (sym (at_key-get_by entries k) ∙ none)

    -- the value at a key is where bisection ends, or nowhere
    pub at_key-rank : (k : Key) (d : Key × V) → key_rank entries k < length entries → key_eq (get_or entries (key_rank entries k) d).0 k ≡ true
        → at_key entries k ≡ Some (get_or entries (key_rank entries k) d).1
    at_key-rank k d within same = at_key-get_by entries k ∙ get-rank keys_ordered entries k d within same

    pub at_key-missing : (k : Key) (d : Key × V) → IsInKeyOrder entries
        → (key_rank entries k < length entries → key_eq (get_or entries (key_rank entries k) d).0 k ≡ false) → at_key entries k ≡ None
    at_key-missing k d rising other = at_key-get_by entries k ∙ get-missing keys_ordered entries k d rising other

  -- nothing is at a key that is greater than all
  pub at_key-behind : (entries : List (Key × V)) (k : Key) → IsInKeyOrder entries → length entries ≤ key_rank entries k → at_key entries k ≡ None
  at_key-behind [] k rising past = refl
  at_key-behind (e ∷ entries) k rising past = at_key-missing (e ∷ entries) k e rising (λ within. absurd (omega (arith, past, within)))
