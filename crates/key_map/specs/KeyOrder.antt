-- The order of keys: texts in byte order, then elements in id order.
use Rattle.std.specs.Prelude.{ℕ, List, []}
use Rattle.std.specs.Ordering.{nat_cmp, ordering_then}
use Rattle.std.specs.Cmp.Lexicographic.{slice_cmp}
use Rattle.std.specs.declared.cmp.Ordering.{Ordering}
use Rattle.lamport_id.specs.Order.{id_cmp}
use Rattle.lamport_id.specs.declared.id.Id.{Id}
use Rattle.op_core.specs.declared.cursor.Key.{Key}
use Rattle.op_core.specs.declared.cursor.Key.TheVariants.{Doc, Text, Element, Head}
use Rattle.list_laws.specs.Sorted.{rank_by, KeysRise}

abbrev pub kind_of : Key → ℕ
kind_of Doc = 0
kind_of Head = 1
kind_of (Text t) = 2
kind_of (Element i) = 3

abbrev pub key_text : Key → List ℕ
key_text (Text t) = t
key_text _ = []

abbrev pub element_id : Key → Id
element_id (Element i) = i
element_id _ = record { counter = 0; replica = [] }

abbrev pub key_cmp : Key → Key → Ordering
key_cmp a b =
    ordering_then (nat_cmp (kind_of a) (kind_of b))
    (ordering_then (slice_cmp nat_cmp (key_text a) (key_text b)) (id_cmp (element_id a) (element_id b)))

module _ {V : Type 0} where
  -- how many entries, at the front, have a lesser key
  abbrev pub key_rank : List (Key × V) → Key → ℕ
  key_rank = rank_by key_cmp

  -- the keys rise
  abbrev pub IsInKeyOrder : List (Key × V) → Type 0
  IsInKeyOrder = KeysRise key_cmp
