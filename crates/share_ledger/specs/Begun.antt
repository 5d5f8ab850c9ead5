-- What the documents of a table begin with.
use Rattle.std.specs.Prelude.{◌≡◌, ℕ, List, [], Option, None, IfSome}
use Rattle.op_core.specs.Op.{Op}

-- The log that a document begins with, and the name of its replica. No name stands for any.
pub record Origin : Type 0 where
  pub log : List Op
  pub replica : Option (List ℕ)

abbrev pub empty_origin : Origin
empty_origin = record { log = []; replica = None }

-- a document of this origin may be the replica's of this name
abbrev pub MayBeNamed : Origin → List ℕ → Type 0
MayBeNamed origin name = IfSome origin.replica (λ given. name ≡ given)

-- each log is empty, and a replica of any name may have the document
abbrev pub BeginEmpty : (ℕ → Origin) → Type 0
BeginEmpty origin =
    (number : ℕ) → ((origin number).log ≡ []) × ((name : List ℕ) → MayBeNamed (origin number) name)
