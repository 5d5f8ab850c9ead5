-- How a chain is read from a log.
use Rattle.std.specs.Prelude.{◌≡◌, ℕ, ◌<◌, ◌≤◌, List, [], ◌∷◌, length, slice_get, Some}
use Rattle.op_core.specs.Op.{Op}
use Rattle.doc_rules.specs.Chains.{chain_between}

-- the chain goes on from this operation: it is the first, and behind its counter come the others
pub record LeadsChain (name : List ℕ) (above last : ℕ) (log : List Op) (op : Op) : Type 0 where
  pub higher : above < op.id.counter
  pub up_to : op.id.counter ≤ last
  pub chain : chain_between name above last log ≡ op ∷ chain_between name op.id.counter last log

-- the first operation of the chain is at position k, or all end there
pub record IsNextOfChain (name : List ℕ) (above last : ℕ) (log : List Op) (k : ℕ) : Type 0 where
  pub within : k ≤ length log
  pub none : k ≡ length log → chain_between name above last log ≡ []
  pub next : (op : Op) → slice_get log k ≡ Some op → LeadsChain name above last log op
