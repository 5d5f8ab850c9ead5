-- Lists that rise: each key is less than those behind it. Where a key is in one, and what is at the
-- keys of pairs.
use Rattle.std.specs.Prelude.{◌≡◌, ◌<◌, ◌≤◌, ℕ, List, [], ◌∷◌, length, take, drop, Contains}
use Rattle.std.specs.Prelude.{slice_index_or, Bool}
use Rattle.std.specs.Prelude.{Option, Some, None, if◌then◌else◌}
use Rattle.std.specs.List.{prefix_len}
use Rattle.std.specs.Ordering.{is_lt}
use Rattle.std.specs.declared.cmp.Ordering.{Ordering}
use Rattle.std.specs.declared.cmp.Ordering.TheVariants.{Less}

module _ {X K : Type 0} (cmp : K → K → Ordering) (key : X → K) where
  -- each key is less than those behind it
  abbrev pub IsRising : List X → Type 0
  IsRising [] = Unit {0}
  IsRising (x ∷ xs) = ((y : X) → Contains xs y → cmp (key x) (key y) ≡ Less) × IsRising xs

  -- the element at index i has the key
  pub record IsIndexOf (xs : List X) (k : K) (i : ℕ) : Type 0 where
    pub within : i < length xs
    pub has_key : (d : X) → key (slice_index_or xs i d) ≡ k

  -- the key would go at index i: smaller keys before it, and greater keys from it on
  pub record IsGap (xs : List X) (k : K) (i : ℕ) : Type 0 where
    pub within : i ≤ length xs
    pub smaller_before : (y : X) → Contains (take i xs) y → cmp (key y) k ≡ Less
    pub greater_behind : (y : X) → Contains (drop i xs) y → cmp k (key y) ≡ Less

module _ {K X : Type 0} where
  -- the keys of the pairs rise
  abbrev pub KeysRise : (K → K → Ordering) → List (K × X) → Type 0
  KeysRise cmp = IsRising cmp (λ (e : K × X). e.0)

  -- how many pairs, at the front, have a lesser key
  abbrev pub rank_by : (K → K → Ordering) → List (K × X) → K → ℕ
  rank_by cmp entries key = prefix_len (λ e. is_lt (cmp e.0 key)) entries

  -- what is at a key
  abbrev pub get_by : (K → K → Bool) → List (K × X) → K → Option X
  get_by eq [] key = None
  get_by eq (e ∷ entries) key = if eq e.0 key then Some e.1 else get_by eq entries key
