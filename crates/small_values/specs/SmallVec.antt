-- The elements of a small vector, and how many there is room for.
use Rattle.std.specs.Prelude.{ℕ, List, [], length, Bool, true, false, vec_capacity}
use Rattle.small_values.specs.declared.small_vec.SmallVec.{SmallVec}
use Rattle.small_values.specs.declared.small_vec.SmallVec.TheVariants.{Other, One, Listed}

module _ {X O : Type 0} where
  -- the elements, where `other` says which those are that another value is in place of
  abbrev pub elements_by : (O → List X) → SmallVec X O → List X
  elements_by other (Other value) = other value
  elements_by other (One element) = element
  elements_by other (Listed elements) = elements.items

  -- its own elements: a value in place of them is none
  abbrev pub elements : SmallVec X O → List X
  elements = elements_by (λ _. [])

  -- how many of its own it has room for: one in place, or as many as its memory holds
  abbrev pub room : SmallVec X O → ℕ
  room (Other value) = 1
  room (One element) = length element
  room (Listed elements) = vec_capacity elements

  -- one element is in place
  abbrev pub is_one : SmallVec X O → Bool
  is_one (Other value) = false
  is_one (One element) = true
  is_one (Listed elements) = false
