-- What a front lacks of a log, by the replicas.
use Rattle.std.specs.Prelude.{◌≡◌, ℕ, ◌<◌, ◌≤◌, List, true, false, length, drop, slice_get, Some, Contains}
use Rattle.version_vector.specs.Front.{covers}
use Rattle.op_core.specs.Op.{Op}
use Rattle.doc_rules.specs.Answers.{since}
use Rattle.op_log.specs.Index.{HasOpAt, IsLast, CoversBetween, IsUncovered}
use Rattle.op_log.specs.declared.index.Lack.{Lack}
use Rattle.op_log.specs.declared.index.Lacks.{Lacks}

-- of the replica the front lacks the operations from a counter on, of which there are some
pub record IsLack (front : List (List ℕ × ℕ)) (log : List Op) (name : List ℕ) (lack : Lack) : Type 0 where
  pub last : IsLast log name lack.last
  pub reaches : (op : Op) → slice_get log lack.last ≡ Some op → lack.counter ≤ op.id.counter
  pub covered : (k : ℕ) (at : HasOpAt log name k) → at.op.id.counter < lack.counter → covers front at.op.id ≡ true
  pub uncovered : (k : ℕ) (at : HasOpAt log name k) → lack.counter ≤ at.op.id.counter → covers front at.op.id ≡ false

-- it covers all of the replica
abbrev pub CoversReplica : List (List ℕ × ℕ) → List Op → List ℕ → Type 0
CoversReplica front log name = (k : ℕ) (at : HasOpAt log name k) → covers front at.op.id ≡ true

-- what the front lacks of each replica
pub record AreLacks (front : List (List ℕ × ℕ)) (log : List Op) (lacks : List Lack) : Type 0 where
  pub each : (lack : Lack) → Contains lacks lack → (name : List ℕ) × IsLack front log name lack
  pub all : (k : ℕ) (op : Op) → slice_get log k ≡ Some op → covers front op.id ≡ false
      → (lack : Lack) × Contains lacks lack × IsLack front log op.id.replica lack

-- that, once it is known
abbrev pub HoldsLacks : List (List ℕ × ℕ) → List Op → Lacks → Type 0
HoldsLacks front log lacks = lacks.are_known ≡ true → AreLacks front log lacks.found.items

-- the first operation from a position on that the front does not cover is at position k, or all end there
pub record IsNextUncovered (front : List (List ℕ × ℕ)) (log : List Op) (from k : ℕ) : Type 0 where
  pub within : k ≤ length log
  pub later : from ≤ k
  pub covered : CoversBetween front log from k
  pub uncovered : IsUncovered front log k

-- that, by what is lacking from there on
pub record IsNextOfSince (front : List (List ℕ × ℕ)) (log : List Op) (from k : ℕ) : Type 0 where
  pub within : k ≤ length log
  pub passed : since front (drop k log) ≡ since front (drop from log)
  pub uncovered : IsUncovered front log k
