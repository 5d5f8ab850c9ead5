-- Bisection of a list of pairs whose keys rise.
use Rattle.std.proofs.Common.{◌≡◌, ℕ, zero, suc, ◌<◌, ◌≤◌, ◌+◌, inl, inr, List, [], ◌∷◌, length, get_or, Bool, true, false, Option, Some, None, Contains, refl, sym, ap, subst, ◌∙◌, true≢false, arith, if◌then◌else◌, Less}
use Rattle.std.specs.Ordering.{is_lt}
use Rattle.std.specs.declared.cmp.Ordering.{Ordering}
use Rattle.std.specs.List.Sorted.{IsPartitionedBy, IsPartitionPoint}
use Rattle.std.proofs.lemmas.List.Elements.{Contains-get_or}
use Rattle.std.proofs.lemmas.List.Sums.{prefix_len_is}
use Rattle.list_laws.proofs.IdOrder.{transitive}
use Rattle.list_laws.proofs.Members.{Contains-nil, Contains-here, Contains-there, Contains-cases}
use Rattle.list_laws.specs.Sorted.{rank_by, get_by, KeysRise}
use Rattle.list_laws.proofs.Keys.{IsKeyOrder, is_Less, same, itself, apart, apart_back, greater_is}

module _ {K X : Type 0} {eq : K → K → Bool} {cmp : K → K → Ordering} (order : IsKeyOrder eq cmp) where
  -- a key that is less than all of them stands nowhere
  none_above : (entries : List (K × X)) (key : K) → ((e : K × X) → Contains entries e → cmp key e.0 ≡ Less) → get_by eq entries key ≡ None
  none_above [] key below = refl
  none_above (e ∷ entries) key below =
      rw (apart_back order key e.0 (below e (Contains-here entries refl))) (none_above entries key (λ x c. below x (Contains-there e entries c)))

  -- the entries with a lesser key come first
  pub lesser_first : (entries : List (K × X)) (key : K) → KeysRise cmp entries → IsPartitionedBy (λ e. is_lt (cmp e.0 key)) entries
  lesser_first [] key rising i j d le within less = absurd (omega arith)
  lesser_first (e ∷ entries) key rising zero zero d le within less = less
  lesser_first (e ∷ entries) key rising zero (suc j) d le within less =
      let next = get_or entries j d in
      ap is_lt (transitive order.order {x = e.0} {y = next.0} {z = key} (rising.0 next (Contains-get_or entries j d (omega arith))) (is_Less (cmp next.0 key) less))
  lesser_first (e ∷ entries) key rising (suc i) zero d le within less = absurd (omega arith)
  lesser_first (e ∷ entries) key rising (suc i) (suc j) d le within less =
      lesser_first entries key rising.1 i j d (omega arith) (omega arith) less

  -- so bisection finds how many they are
  pub rank_is : (entries : List (K × X)) (key : K) (n : ℕ) → n ≤ length entries
      → IsPartitionPoint (λ e. is_lt (cmp e.0 key) ≡ true) (λ e. is_lt (cmp e.0 key) ≡ false) entries n → n ≡ rank_by cmp entries key
  rank_is [] key n within point = omega arith
  rank_is (e ∷ entries) key n within point =
      sym (prefix_len_is (λ x. is_lt (cmp x.0 key)) (e ∷ entries) n e within (λ k below. point.0 k e (omega arith) below) (λ inside. point.1 n e (omega arith) inside))

  -- no entry has a key that is not found
  pub get-none : (entries : List (K × X)) (key : K) (k : ℕ) (d : K × X) → get_by eq entries key ≡ None → k < length entries
      → eq (get_or entries k d).0 key ≡ false
  get-none [] key k d none within = absurd (omega arith)
  get-none (e ∷ entries) key k d none within = go (eq e.0 key) refl none (λ i h inside. get-none entries key i d h inside) k within
    where
      go : (b : Bool) → eq e.0 key ≡ b → ◌≡◌ {A = Option X} (if b then Some e.1 else get_by eq entries key) None
          → ((i : ℕ) → get_by eq entries key ≡ None → i < length entries → eq (get_or entries i d).0 key ≡ false)
          → (k : ℕ) → k < length (e ∷ entries) → eq (get_or (e ∷ entries) k d).0 key ≡ false
      go true is h ih k inside = absurd (cc)
      go false is h ih zero inside = is
      go false is h ih (suc k) inside = ih k h (omega arith)

  -- what stands at a key stands where bisection ends
  pub get-rank : (entries : List (K × X)) (key : K) (d : K × X) → rank_by cmp entries key < length entries
      → eq (get_or entries (rank_by cmp entries key) d).0 key ≡ true → get_by eq entries key ≡ Some (get_or entries (rank_by cmp entries key) d).1
  get-rank [] key d within same = absurd (omega arith)
  get-rank (e ∷ entries) key d within same =
      go (is_lt (cmp e.0 key)) refl (eq e.0 key) refl (λ inside at. get-rank entries key d inside at) within same
    where
      go : (less : Bool) → is_lt (cmp e.0 key) ≡ less → (here : Bool) → eq e.0 key ≡ here
          → (rank_by cmp entries key < length entries → eq (get_or entries (rank_by cmp entries key) d).0 key ≡ true → get_by eq entries key ≡ Some (get_or entries (rank_by cmp entries key) d).1)
          → (if less then 1 + rank_by cmp entries key else 0) < length (e ∷ entries)
          → eq (get_or (e ∷ entries) (if less then 1 + rank_by cmp entries key else 0) d).0 key ≡ true
          → ◌≡◌ {A = Option X} (if here then Some e.1 else get_by eq entries key) (Some (get_or (e ∷ entries) (if less then 1 + rank_by cmp entries key else 0) d).1)
      go true is true at ih inside found = absurd (true≢false (sym at ∙ apart order e.0 key (is_Less (cmp e.0 key) is)))
      go true is false at ih inside found =
          let one : 1 + rank_by cmp entries key ≡ suc (rank_by cmp entries key) = omega arith in
          rw one (ih (omega arith) (rw one at found))
      go false is true at ih inside found = refl
      go false is false at ih inside found = absurd (true≢false (sym found ∙ at))

  -- and a key that does not stand there stands nowhere
  pub get-missing : (entries : List (K × X)) (key : K) (d : K × X) → KeysRise cmp entries
      → (rank_by cmp entries key < length entries → eq (get_or entries (rank_by cmp entries key) d).0 key ≡ false) → get_by eq entries key ≡ None
  get-missing [] key d rising other = refl
  get-missing (e ∷ entries) key d rising other =
      go (is_lt (cmp e.0 key)) refl (eq e.0 key) refl (λ at. get-missing entries key d rising.1 at) other
    where
      go : (less : Bool) → is_lt (cmp e.0 key) ≡ less → (here : Bool) → eq e.0 key ≡ here
          → ((rank_by cmp entries key < length entries → eq (get_or entries (rank_by cmp entries key) d).0 key ≡ false) → get_by eq entries key ≡ None)
          → ((if less then 1 + rank_by cmp entries key else 0) < length (e ∷ entries) → eq (get_or (e ∷ entries) (if less then 1 + rank_by cmp entries key else 0) d).0 key ≡ false)
          → ◌≡◌ {A = Option X} (if here then Some e.1 else get_by eq entries key) None
      go true is true at ih other = absurd (true≢false (sym at ∙ apart order e.0 key (is_Less (cmp e.0 key) is)))
      go true is false at ih other =
          let one : 1 + rank_by cmp entries key ≡ suc (rank_by cmp entries key) = omega arith in
          ih (λ inside. rw one at (other (omega arith)))
      go false is true at ih other = absurd (true≢false (sym at ∙ other (omega arith)))
      go false is false at ih other =
          none_above entries key (λ x c. transitive order.order {x = key} {y = e.0} {z = x.0} (greater_is order e.0 key is at) (rising.0 x c))

  -- what stands at the key of an entry is the entry's
  pub get-own : (entries : List (K × X)) → KeysRise cmp entries → (e : K × X) → Contains entries e → get_by eq entries e.0 ≡ Some e.1
  get-own [] rising e c = absurd (Contains-nil c)
  get-own (x ∷ entries) rising e c =
      elim (Contains-cases x entries c) [
        | inl is ↦ subst (λ z. get_by eq (x ∷ entries) z.0 ≡ Some z.1) is (rw (itself order x.0) refl)
        | inr there ↦ rw (apart order x.0 e.0 (rising.0 e there)) (get-own entries rising.1 e there)
      ]

  -- and what stands at a key is that of an entry
  pub get-Contains : (entries : List (K × X)) (key : K) (x : X) → get_by eq entries key ≡ Some x → Contains entries (key, x)
  get-Contains [] key x h = absurd (cc)
  get-Contains (e ∷ entries) key x h = go (eq e.0 key) refl h (get-Contains entries key x)
    where
      go : (b : Bool) → eq e.0 key ≡ b → ◌≡◌ {A = Option X} (if b then Some e.1 else get_by eq entries key) (Some x)
          → (get_by eq entries key ≡ Some x → Contains entries (key, x)) → Contains (e ∷ entries) (key, x)
      go true is h ih = let found : e.1 ≡ x = cc in Contains-here entries (λ j. (same order e.0 key is j, found j))
      go false is h ih = Contains-there e entries (ih h)
