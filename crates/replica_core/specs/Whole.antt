-- What a replica keeps.
use Rattle.std.specs.Prelude.{◌≡◌, ◌≤◌, ℕ, List, [], ◌∷◌, ◌++◌, length, filter, not, true}
use Rattle.lamport_id.specs.Name.{is_name}
use Rattle.op_core.specs.Limits.{most_held}
use Rattle.doc_api.specs.Words.{Id, Op}
use Rattle.crdt_rules.specs.Same.{id_eq}
use Rattle.doc_tree.specs.Nodes.{TreeValue}
use Rattle.doc_rules.specs.Replica.{Replica, IsValidReplica, put_among}
use Rattle.hold_buffer.specs.Held.{Buffer, IsCurrent}
use Rattle.replica_core.specs.AgreesWith.{AgreesWith}

abbrev pub replica_of : List ℕ → List Op → List Op → Replica
replica_of name log held = record { name = name; log = log; held = held }

-- ---- a replica without its name

pub record Contents : Type 0 where
  pub log : List Op
  -- in the order of their ids
  pub held : List Op

abbrev pub replica_with : List ℕ → Contents → Replica
replica_with name b = record { name = name; log = b.log; held = b.held }

-- with one more operation logged
abbrev pub with_logged : Op → Contents → Contents
with_logged op b = record { log = b.log ++ op ∷ []; held = b.held }

-- with one more held
abbrev pub with_held : Op → Contents → Contents
with_held op b = record { log = b.log; held = put_among op b.held }

-- without the held one of this id
abbrev pub with_removed : Id → Contents → Contents
with_removed i b = record { log = b.log; held = filter (λ o. not (id_eq o.id i)) b.held }

-- ---- what the types keep

-- the tree has the facts of the log's replay, each held operation waits for what
-- is not logged, and few are held
pub record IsBody (tree : TreeValue) (log : List Op) (buffer : Buffer) : Type 0 where
  pub agrees : AgreesWith tree log
  pub current : IsCurrent buffer log
  pub few : length buffer.held ≤ most_held

-- the log is good, and what is held waits
pub record IsWhole (name : List ℕ) (b : Contents) : Type 0 where
  pub named : is_name name ≡ true
  pub kept : IsValidReplica (replica_with name b)
