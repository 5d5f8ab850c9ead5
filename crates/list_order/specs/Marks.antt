-- What is kept of each slot beside its id and link: whether its id is
-- present, and the block that it is in.
use Rattle.std.specs.Prelude.{◌≡◌, ◌⊎◌, ◌++◌, ◌<◌, ◌≤◌, ◌+◌, ◌-◌, ◌^◌, min, ℕ, suc, List, [], ◌∷◌}
use Rattle.std.specs.Prelude.{map, length, Bool}
use Rattle.std.specs.Prelude.{false, ◌&&◌, nat_eq, nat_le, Option, Some, None, slice_index_or}
use Rattle.std.specs.Prelude.{slice_set, vec_capacity, if◌then◌else◌}
use Rattle.std.specs.Ordering.{is_lt}
use Rattle.doc_api.specs.Words.{Id, id_cmp}
use Rattle.presence_set.specs.ById.{get}
use Rattle.list_order.specs.declared.slots.Chain.{Chain}
use Rattle.list_order.specs.declared.slots.Slot.{Slot}
use Rattle.list_order.specs.declared.slots.SlotNumber.{SlotNumber}
use Rattle.list_order.specs.declared.marks.Mark.{Mark}
use Rattle.list_order.specs.declared.marks.MarkBlock.{MarkBlock}
use Rattle.list_order.specs.declared.marks.Marks.{Marks}
use Rattle.list_order.specs.Slots.{slot_at, slots_from, IsOrder, LinksEnd}

-- a mark for numbers that name none
abbrev pub unmarked : Mark
unmarked = record { is_present = false; block = 0 }

abbrev pub mark_at : List Mark → SlotNumber → Mark
mark_at marks n = slice_index_or marks n.0 unmarked

-- a block for numbers that name none
abbrev pub no_block : MarkBlock
no_block = record { present = 0; end = None; least_counter = 0 }

abbrev pub block_at : List MarkBlock → ℕ → MarkBlock
block_at blocks k = slice_index_or blocks k no_block

-- how many marks along a path pass a test
abbrev pub count_where : (Mark → Bool) → List Mark → List SlotNumber → ℕ
count_where test marks [] = 0
count_where test marks (n ∷ path) =
    if test (mark_at marks n) then suc (count_where test marks path) else count_where test marks path

abbrev pub is_marked : Mark → Bool
is_marked m = m.is_present

abbrev pub is_marked_in : ℕ → Mark → Bool
is_marked_in k m = m.is_present && nat_eq m.block k

-- the path from its first slot in block k or a later one
abbrev pub from_block : ℕ → List Mark → List SlotNumber → List SlotNumber
from_block k marks [] = []
from_block k marks (n ∷ path) = if nat_le k (mark_at marks n).block then n ∷ path else from_block k marks path

-- where a path starts that leads on to a slot
abbrev pub start_of : Option SlotNumber → List SlotNumber → Option SlotNumber
start_of at [] = at
start_of at (n ∷ path) = Some n

-- the blocks never fall along a path
abbrev pub IsInBlockOrder : ℕ → List Mark → List SlotNumber → Type 0
IsInBlockOrder low marks [] = Unit {0}
IsInBlockOrder low marks (n ∷ path) =
    (low ≤ (mark_at marks n).block) × IsInBlockOrder (mark_at marks n).block marks path

-- each block has the count of its present slots, and the slot behind it.
-- Slots in no block are at the end
pub record IsCounted (marks : List Mark) (blocks : List MarkBlock) (path : List SlotNumber) (at : Option SlotNumber)
    : Type 0 where
  pub rising : IsInBlockOrder 0 marks path
  pub counted : (k : ℕ) → k < length blocks
      → (block_at blocks k).present ≡ count_where (is_marked_in k) marks path
  pub ends : (k : ℕ) → k < length blocks
      → (block_at blocks k).end ≡ start_of at (from_block (suc k) marks path)

-- the block that a slot is in, or the first
abbrev pub block_behind : List Mark → Option SlotNumber → ℕ
block_behind marks None = 0
block_behind marks (Some n) = (mark_at marks n).block

-- the mark of a new slot behind another, or in front
abbrev pub new_mark : List Mark → Option SlotNumber → Mark
new_mark marks previous = record { is_present = false; block = block_behind marks previous }

-- a count after a mark was changed
abbrev pub bit : Bool → ℕ
bit b = if b then 1 else 0

-- how many ids along a path are present up to a slot, itself included
abbrev pub count_to : SlotNumber → List Mark → List SlotNumber → ℕ
count_to n marks [] = 0
count_to n marks (m ∷ path) =
    bit (mark_at marks m).is_present + (if nat_eq m.0 n.0 then 0 else count_to n marks path)

abbrev pub moved : ℕ → Bool → Bool → ℕ
moved count was is = count - bit was + bit is

-- a mark with another presence
abbrev pub set_mark : List Mark → SlotNumber → Bool → List Mark
set_mark marks n is = slice_set marks n.0 (record { is_present = is; block = (mark_at marks n).block })

-- a mark with another block
abbrev pub set_block : List Mark → SlotNumber → ℕ → List Mark
set_block marks n block = slice_set marks n.0 (record { is_present = (mark_at marks n).is_present; block = block })

-- the open block was closed, or stays open
abbrev pub IsClosed : List MarkBlock → List MarkBlock → ℕ → ℕ → Option SlotNumber → ℕ → ℕ → Type 0
IsClosed blocks new present least end left least_left =
    ((new ≡ blocks ++ record { present = present; end = end; least_counter = least } ∷ []) × (left ≡ 0))
    ⊎ ((new ≡ blocks) × (left ≡ present) × (least_left ≡ least))

-- each slot of a path is so
abbrev pub Along : (SlotNumber → Type 0) → List SlotNumber → Type 0
Along P [] = Unit {0}
Along P (n ∷ path) = P n × Along P path

-- the counter of a slot's id is at least what the slot's block says. A slot in no block is so
abbrev pub IsAbove : List Slot → List Mark → List MarkBlock → SlotNumber → Type 0
IsAbove slots marks blocks n = (block_at blocks (mark_at marks n).block).least_counter ≤ (slot_at slots n).id.counter

-- a block has an id with this counter, too
abbrev pub lowered_in : List MarkBlock → ℕ → ℕ → List MarkBlock
lowered_in blocks k counter =
    slice_set blocks k
    (record {
      present = (block_at blocks k).present;
      end = (block_at blocks k).end;
      least_counter = min (block_at blocks k).least_counter counter;
    })

-- behind the block of a slot there is this one. The ids of the block and of
-- that slot are greater than the id
pub record SkipsTo (slots : List Slot) (marks : List Mark) (blocks : List MarkBlock)
    (id : Id) (n m : SlotNumber) : Type 0 where
  pub block : (mark_at marks n).block < length blocks
  pub above : id.counter < (block_at blocks (mark_at marks n).block).least_counter
  pub end : (block_at blocks (mark_at marks n).block).end ≡ Some m
  pub greater : is_lt (id_cmp (slot_at slots m).id id) ≡ false

-- from a slot that is passed one goes on to the next one, or to the one behind its block
abbrev pub PassesOn : List Slot → List Mark → List MarkBlock → Id → SlotNumber → Option SlotNumber
    → Type 0
PassesOn slots marks blocks id n next =
    (next ≡ (slot_at slots n).next)
    ⊎ ((m : SlotNumber) × (next ≡ Some m) × SkipsTo slots marks blocks id n m)

-- the blocks with one count moved
abbrev pub moved_in : List MarkBlock → ℕ → Bool → Bool → List MarkBlock
moved_in blocks k was is =
    slice_set blocks k
    (record {
      present = moved (block_at blocks k).present was is;
      end = (block_at blocks k).end;
      least_counter = (block_at blocks k).least_counter;
    })

-- a count may be moved
pub record MayMove (count : ℕ) (was is : Bool) : Type 0 where
  pub enough : bit was ≤ count
  pub fits : moved count was is < 2 ^ 64

-- a mark may be changed
pub record MaySet (marks : List Mark) (blocks : List MarkBlock) (present : ℕ) (n : SlotNumber) (is : Bool)
    : Type 0 where
  pub within : n.0 < length marks
  pub all : MayMove present (mark_at marks n).is_present is
  pub in_block : (mark_at marks n).block < length blocks
      → MayMove (block_at blocks (mark_at marks n).block).present (mark_at marks n).is_present is

-- the entries of the slots along a path
abbrev pub entries_along : List Slot → List Mark → List SlotNumber → List (Id × Bool)
entries_along slots marks path = map
    (λ n. ((slot_at slots n).id, (mark_at marks n).is_present)) path

-- the ids along a path that are present
abbrev pub present_along : List Slot → List Mark → List SlotNumber → List Id
present_along slots marks [] = []
present_along slots marks (n ∷ path) =
    if (mark_at marks n).is_present then (slot_at slots n).id ∷ present_along slots marks path
    else present_along slots marks path

-- the marks fit the links: each block has the count of its present ids, and no id of it
-- has a lesser counter than it says
pub record IsMarked (slots : List Slot) (first : Option SlotNumber)
    (marks : List Mark) (blocks : List MarkBlock) (present : ℕ) : Type 0 where
  pub walk : LinksEnd slots first
  pub marked : length marks ≡ length slots
  pub counted : IsCounted marks blocks (slots_from slots first) None
  pub all : present ≡ count_where is_marked marks (slots_from slots first)
  pub above : Along (IsAbove slots marks blocks) (slots_from slots first)

abbrev pub FitsChain : Chain → Marks → Type 0
FitsChain chain m = IsMarked chain.slots.items chain.first m.by_slot.items m.blocks.items m.present

-- the order, its index and its marks fit together
pub record IsMarkedOrder (slots : List Slot) (first : Option SlotNumber) (index : List (Id × SlotNumber))
    (marks : List Mark) (blocks : List MarkBlock) (present : ℕ) : Type 0 where
  pub order : IsOrder slots first index
  pub own : (n : SlotNumber) → n.0 < length slots → get index (slot_at slots n).id ≡ Some n
  pub fits : IsMarked slots first marks blocks present

abbrev pub FitsOrder : Chain → List (Id × SlotNumber) → Marks → Type 0
FitsOrder chain index m =
    IsMarkedOrder chain.slots.items chain.first index m.by_slot.items m.blocks.items m.present

-- the entries of a chain
abbrev pub entries_in : Chain → Marks → List (Id × Bool)
entries_in chain m = entries_along chain.slots.items m.by_slot.items (slots_from chain.slots.items chain.first)

-- its present ids from a slot on
abbrev pub present_from : Chain → Marks → Option SlotNumber → List Id
present_from chain m at = present_along chain.slots.items m.by_slot.items (slots_from chain.slots.items at)

-- marks after a cut show as present what they showed before, with as much room
pub record IsRecut (old new : Marks) : Type 0 where
  pub same : (n : SlotNumber)
      → (mark_at new.by_slot.items n).is_present ≡ (mark_at old.by_slot.items n).is_present
  pub room : vec_capacity new.by_slot ≡ vec_capacity old.by_slot
