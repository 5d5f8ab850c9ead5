-- The facts and roles of a list of operations, however it is replayed.
use Rattle.std.specs.Prelude.{◌≡◌, List, Bool, false, Option, Some, None}
use Rattle.doc_api.specs.Words.{Id, Key, Tagged, Op}
use Rattle.op_core.specs.Equality.{operation_eq}
use Rattle.doc_api.specs.declared.role.Role.{Role}
use Rattle.list_laws.specs.Walk.{SameMembers}
use Rattle.crdt_rules.specs.Facts.{Facts, facts}
use Rattle.crdt_rules.specs.Fits.{HasRoom}
use Rattle.crdt_rules.specs.Free.{AreFactsOf}
use Rattle.crdt_rules.specs.Pull.{pulled, HoldsWhatItCovers}
use Rattle.crdt_rules.specs.Log.{IsGood, IsCausalOrder, replay}
use Rattle.doc_rules.specs.Replica.{find_id}
use Rattle.doc_rules.specs.Role.{roles_of}

-- a good list whose facts these are: those of the set of its operations,
-- and of each causal order of them
pub record AreFactsOfEach (ops : List Op) (f : Facts) : Type 0 where
  pub good : IsGood ops
  pub set : AreFactsOf ops f
  pub orders : (order : List Op) → IsCausalOrder ops order → f ≡ facts (replay order)

-- each present id has its role, by whichever causal order of the operations
abbrev pub AreRolesOfEach : List Op → (List Tagged → Key → Id → Option Role) → Type 0
AreRolesOfEach ops roles =
    (order : List Op) → IsCausalOrder ops order
    → (p : List Tagged) (k : Key) (i : Id)
    → roles p k i ≡ roles_of (facts (replay order)) order p k i

-- two good lists of one set of operations
pub record Agree (ops others : List Op) : Type 0 where
  pub good : IsGood ops
  pub other_good : IsGood others
  pub same : SameMembers ops others

-- the operation of this id is there, and is this one
abbrev pub is_it : Op → Option Op → Bool
is_it op None = false
is_it op (Some found) = operation_eq found op

abbrev pub holds : List Op → Op → Bool
holds ops op = is_it op (find_id ops op.id)

-- two good logs, in which what the front of either covers of the other's operations is in both, and
-- which are together within the limits of a log
pub record MayPull (log other : List Op) : Type 0 where
  pub good : IsGood log
  pub other_good : IsGood other
  pub holds : HoldsWhatItCovers log other
  pub other_holds : HoldsWhatItCovers other log
  pub room : HasRoom (pulled log other)
