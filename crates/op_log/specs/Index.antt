-- The index of a log: where each operation finds those of its replica before it, and
-- where the last of each replica is.
use Rattle.std.specs.Prelude.{◌≡◌, ℕ, ◌<◌, ◌≤◌, List, true, false, bytes_eq, length, Some, None}
use Rattle.std.specs.Prelude.{slice_get}
use Rattle.lamport_id.specs.Order.{name_cmp}
use Rattle.list_laws.specs.Sorted.{KeysRise, get_by}
use Rattle.version_vector.specs.Front.{covers}
use Rattle.op_core.specs.Op.{Op}
use Rattle.op_log.specs.Front.{IsFrontOf}
use Rattle.crdt_rules.specs.Log.{IsGood}
use Rattle.op_log.specs.declared.index.Index.{Index}
use Rattle.op_log.specs.declared.index.Link.{Link}

-- at position k is an operation of this replica
pub record HasOpAt (log : List Op) (name : List ℕ) (k : ℕ) : Type 0 where
  pub op : Op
  pub there : slice_get log k ≡ Some op
  pub made : op.id.replica ≡ name

-- from the operation at position k the link leads to the one of its replica
-- before it, and to another of them
pub record IsLink (log : List Op) (name : List ℕ) (k : ℕ) (link : Link) : Type 0 where
  pub before : HasOpAt log name link.before
  pub far : HasOpAt log name link.far
  -- none of the replica is between, and the first one leads to itself
  pub next : (j : ℕ) → HasOpAt log name j → j < k → (j ≤ link.before) × (link.before < k)

-- each operation has a link
pub record AreLinks (log : List Op) (links : List Link) : Type 0 where
  pub as_many : length links ≡ length log
  pub right : (name : List ℕ) (k : ℕ) (link : Link)
      → HasOpAt log name k → slice_get links k ≡ Some link → IsLink log name k link

-- the last operation of the replica is at position k
pub record IsLast (log : List Op) (name : List ℕ) (k : ℕ) : Type 0 where
  pub here : HasOpAt log name k
  pub last : (j : ℕ) → HasOpAt log name j → j ≤ k

-- each replica of the log with the position of its last operation, in the order of the names
pub record AreLasts (log : List Op) (lasts : List (List ℕ × ℕ)) : Type 0 where
  pub rising : KeysRise name_cmp lasts
  pub each : (name : List ℕ) (k : ℕ) → get_by bytes_eq lasts name ≡ Some k → IsLast log name k
  pub none : (name : List ℕ) → get_by bytes_eq lasts name ≡ None → (j : ℕ) → ¬ (HasOpAt log name j)

-- a good log with its index
pub record IsIndex (log : List Op) (index : Index) : Type 0 where
  pub good : IsGood log
  pub links : AreLinks log index.links.items
  pub lasts : AreLasts log index.lasts.items

-- a good log with its index and its front
pub record IsIndexed (log : List Op) (positions : Index) (counters : List (List ℕ × ℕ)) : Type 0 where
  pub index : IsIndex log positions
  pub front : IsFrontOf log counters

-- ---- what a search finds

-- the first operation of the replica from a position on with this counter or
-- a greater one is at position k
pub record IsFirstFrom (log : List Op) (name : List ℕ) (from counter : ℕ) (k : ℕ) : Type 0 where
  pub here : HasOpAt log name k
  pub reaches : counter ≤ here.op.id.counter
  pub first : (j : ℕ) (below : HasOpAt log name j) → from ≤ j → j < k
      → below.op.id.counter < counter

-- the front covers the operations of the replica from one position on and before another
abbrev pub CoversChain : List (List ℕ × ℕ) → List Op → List ℕ → ℕ → ℕ → Type 0
CoversChain front log name from n = (k : ℕ) (at : HasOpAt log name k) → from ≤ k → k < n
    → covers front at.op.id ≡ true

-- the front covers the operations of all replicas from one position on and before another
abbrev pub CoversBetween : List (List ℕ × ℕ) → List Op → ℕ → ℕ → Type 0
CoversBetween front log from n =
    (k : ℕ) (op : Op) → slice_get log k ≡ Some op → from ≤ k → k < n → covers front op.id ≡ true

-- the front does not cover the operation at position k, if there is one
abbrev pub IsUncovered : List (List ℕ × ℕ) → List Op → ℕ → Type 0
IsUncovered front log k = (op : Op) → slice_get log k ≡ Some op → covers front op.id ≡ false
