-- How the held operations stand in their slots, and what is kept of what they wait for.
use Rattle.std.specs.Prelude.{◌≡◌, ◌++◌, ◌≤◌, ◌==◌, Bool, List, [], ◌∷◌, Some, Contains, filter}
use Rattle.std.specs.Prelude.{filter_map, map}
use Rattle.std.specs.Prelude.{length, not, true}
use Rattle.std.specs.Global.{Vec}
use Rattle.std.specs.Vec.{vec_capacity}
use Rattle.slab.specs.Slab.{Slab, get}
use Rattle.doc_api.specs.Words.{id_cmp, name_cmp, Id, Op}
use Rattle.version_vector.specs.Front.{is_ascending}
use Rattle.crdt_rules.specs.Same.{id_eq}
use Rattle.doc_rules.specs.Sorted.{IsRising}
use Rattle.hold_buffer.specs.Held.{Wait}
use Rattle.hold_buffer.specs.Waiters.{waiters_of}
use Rattle.hold_buffer.specs.declared.entry.Entry.{Entry}
use Rattle.hold_buffer.specs.declared.waiters.Waiters.{Waiters}

-- the operations of the entries
abbrev pub operations_of : Slab Op → List Entry → List Op
operations_of slots order = filter_map (λ t. get slots t.key) order

-- the entries rise by id, and each leads to the operation of its id
pub record IsOrdered (slots : Slab Op) (order : List Entry) : Type 0 where
  pub rising : IsRising id_cmp (λ t. t.id) order
  pub right : (t : Entry) → Contains order t → (op : Op) × (get slots t.key ≡ Some op)
      × (op.id ≡ t.id)

-- an operation waits for an id
abbrev pub wait_of : Id → Id → Wait
wait_of i waiter = record { awaited = i; waiter = waiter }

-- the waits of one operation for these ids
abbrev pub waits_for : List Id → Id → List Wait
waits_for ids waiter = map (λ i. wait_of i waiter) ids

-- all waits of the entries
abbrev pub waits_of : List Entry → List Wait
waits_of [] = []
waits_of (t ∷ order) = waits_for t.missing t.id ++ waits_of order

-- the ids that an entry waits for are of different replicas, by rising name
abbrev pub AreNamed : List Entry → Type 0
AreNamed order = (t : Entry) → Contains order t → IsRising name_cmp (λ i. i.replica) t.missing

-- the entry waits for the id no more
abbrev pub without_id : Id → Entry → Entry
without_id id t = record t { missing = filter (λ i. not (id_eq i id)) t.missing }

-- all of the entries
pub record IsIntact (slots : Slab Op) (order : List Entry) : Type 0 where
  pub ordered : IsOrdered slots order
  pub named : AreNamed order
  -- each front is in the order of the names
  pub ascending : (o : Op) → Contains (operations_of slots order) o → is_ascending o.front ≡ true

-- the entry waits for nothing
abbrev pub is_free : Entry → Bool
is_free t = length t.missing == 0

-- the ready ids are those of the entries that wait for nothing, in their order, with room for all
pub record ListsFree (order : List Entry) (ready : Vec Id) : Type 0 where
  pub rising : IsRising id_cmp (λ i. i) ready.items
  pub free : (i : Id) → Contains ready.items i → (t : Entry) × Contains order t × (t.id ≡ i)
      × (is_free t ≡ true)
  pub all : (t : Entry) → Contains order t → is_free t ≡ true → Contains ready.items t.id
  pub room : length order ≤ vec_capacity ready

-- each entry is noted at each id that it waits for
abbrev pub AreNoted : List Entry → Waiters → Type 0
AreNoted order waiters =
    (t : Entry) → Contains order t → (i : Id) → Contains t.missing i
    → Contains (waiters_of waiters i) t.key

-- all of a buffer
pub record HasWaits (slots : Slab Op) (order : List Entry) (ready : Vec Id) (waiters : Waiters) : Type 0 where
  pub intact : IsIntact slots order
  pub lists : ListsFree order ready
  pub noted : AreNoted order waiters
