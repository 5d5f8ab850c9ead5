-- A new key inserted at its rank.
use Rattle.std.proofs.Common.{◌≡◌, ℕ, zero, suc, ◌≤◌, ◌+◌, inl, inr, List, [], ◌∷◌, length, take, Bool, true, false, if◌then◌else◌, Option, Some, None, refl, sym, ap, ◌∙◌, subst, arith, true≢false, Less}
use Rattle.std.specs.Prelude.{insert}
use Rattle.std.specs.Ordering.{is_lt}
use Rattle.std.specs.declared.cmp.Ordering.{Ordering}
use Rattle.list_laws.proofs.IdOrder.{transitive}
use Rattle.list_laws.proofs.Members.{Contains-nil, Contains-cases}
use Rattle.list_laws.specs.Sorted.{rank_by, get_by, KeysRise, IsGap}
use Rattle.list_laws.proofs.Keys.{IsKeyOrder, is_Less, same, itself, greater_is}
use Rattle.list_laws.proofs.Rising.{IsRising-insert}

module _ {K X : Type 0} {eq : K → K → Bool} {cmp : K → K → Ordering} (order : IsKeyOrder eq cmp) where
  -- what stands at keys after an insertion, wherever it is made
  get-insert : (entries : List (K × X)) (i : ℕ) (k : K) (x : X) (j : K) → i ≤ length entries → get_by eq entries k ≡ None
      → get_by eq (insert entries i (k, x)) j ≡ (if eq k j then Some x else get_by eq entries j)
  get-insert entries zero k x j within none = refl
  get-insert [] (suc i) k x j within none = absurd (omega arith)
  get-insert (e ∷ entries) (suc i) k x j within none =
      go (eq e.0 k) refl none (λ h. get-insert entries i k x j (omega arith) h)
    where
      meet : (b c : Bool) → (b ≡ true → c ≡ true → e.0 ≡ k) → eq e.0 k ≡ false
          → ◌≡◌ {A = Option X} (if b then Some e.1 else if c then Some x else get_by eq entries j) (if c then Some x else if b then Some e.1 else get_by eq entries j)
      meet true true one other = absurd (true≢false (sym (subst (λ z. eq e.0 z ≡ true) (one refl refl) (itself order e.0)) ∙ other))
      meet true false one other = refl
      meet false c one other = refl

      go : (b : Bool) → eq e.0 k ≡ b → ◌≡◌ {A = Option X} (if b then Some e.1 else get_by eq entries k) None
          → (get_by eq entries k ≡ None → get_by eq (insert entries i (k, x)) j ≡ (if eq k j then Some x else get_by eq entries j))
          → ◌≡◌ {A = Option X} (if eq e.0 j then Some e.1 else get_by eq (insert entries i (k, x)) j) (if eq k j then Some x else if eq e.0 j then Some e.1 else get_by eq entries j)
      go true is h ih = absurd (cc)
      go false is h ih =
          ap (λ o. if eq e.0 j then Some e.1 else o) (ih h)
          ∙ meet (eq e.0 j) (eq k j) (λ s t. same order e.0 j s ∙ sym (same order k j t)) is

  -- a rank is a place
  pub rank-within : (entries : List (K × X)) (k : K) → rank_by cmp entries k ≤ length entries
  rank-within [] k = omega arith
  rank-within (e ∷ entries) k = go (is_lt (cmp e.0 k)) (rank-within entries k)
    where
      go : (b : Bool) → rank_by cmp entries k ≤ length entries → (if b then 1 + rank_by cmp entries k else 0) ≤ length (e ∷ entries)
      go true h = omega arith
      go false h = omega arith

  -- and a gap, where nothing stands at the key
  rank-gap : (entries : List (K × X)) (k : K) → KeysRise cmp entries → get_by eq entries k ≡ None
      → IsGap cmp (λ (e : K × X). e.0) entries k (rank_by cmp entries k)
  rank-gap [] k rising none = record { within = omega arith; smaller_before = λ y c. absurd (Contains-nil c); greater_behind = λ y c. absurd (Contains-nil c) }
  rank-gap (e ∷ entries) k rising none = go (is_lt (cmp e.0 k)) refl (eq e.0 k) refl none (λ h. rank-gap entries k rising.1 h)
    where
      go : (less : Bool) → is_lt (cmp e.0 k) ≡ less → (here : Bool) → eq e.0 k ≡ here
          → ◌≡◌ {A = Option X} (if here then Some e.1 else get_by eq entries k) None
          → (get_by eq entries k ≡ None → IsGap cmp (λ (e : K × X). e.0) entries k (rank_by cmp entries k))
          → IsGap cmp (λ (e : K × X). e.0) (e ∷ entries) k (if less then 1 + rank_by cmp entries k else 0)
      go less is true at h ih = absurd (cc)
      go true is false at h ih =
          let one : 1 + rank_by cmp entries k ≡ suc (rank_by cmp entries k) = omega arith in
          let gap = ih h in
          let le = gap.within in
          rw one (record {
            within = omega (arith, le);
            smaller_before = λ y c.
                elim (Contains-cases e (take (rank_by cmp entries k) entries) c) [
                  | inl first ↦ subst (λ (z : K × X). cmp z.0 k ≡ Less) first (is_Less (cmp e.0 k) is)
                  | inr later ↦ gap.smaller_before y later
                ];
            greater_behind = gap.greater_behind;
          })
      go false is false at h ih =
          let less = greater_is order e.0 k is at in
          record {
            within = omega arith;
            smaller_before = λ y c. absurd (Contains-nil c);
            greater_behind = λ y c.
                elim (Contains-cases e entries c) [
                  | inl first ↦ subst (λ (z : K × X). cmp k z.0 ≡ Less) first less
                  | inr later ↦ transitive order.order {x = k} {y = e.0} {z = y.0} less (rising.0 y later)
                ];
          }

  -- the keys still rise
  pub rising-insert : (entries : List (K × X)) (k : K) (x : X) → KeysRise cmp entries → get_by eq entries k ≡ None
      → KeysRise cmp (insert entries (rank_by cmp entries k) (k, x))
  rising-insert entries k x rising none =
      IsRising-insert order.order (λ (e : K × X). e.0) entries (rank_by cmp entries k) (k, x) rising (rank-gap entries k rising none)

  -- what stands at each key then
  pub get-insert_rank : (entries : List (K × X)) (k : K) (x : X) (j : K) → get_by eq entries k ≡ None
      → get_by eq (insert entries (rank_by cmp entries k) (k, x)) j ≡ (if eq k j then Some x else get_by eq entries j)
  get-insert_rank entries k x j none = get-insert entries (rank_by cmp entries k) k x j (rank-within entries k) none
