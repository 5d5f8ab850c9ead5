-- The kinds of clap's errors.
use Rattle.std.proofs.Common.{◌≢◌, [], ◌∷◌, inl, inr}
use Rattle.clap.specs.Words.{HasKind, Kinds, kind_of}
use Rattle.clap.specs.declared.error.Error.{Error}
use Rattle.clap.specs.declared.error.kind.ErrorKind.TheVariants.{OutOfMemory}

-- an error of another kind than memory has a fault of the args
pub has_fault : (kinds : Kinds) (e : Error) → HasKind kinds e → kind_of e ≢ OutOfMemory → kinds ≢ []
has_fault [] e (inl p) other = λ none. other p
has_fault [] e (inr p) other = λ none. p
has_fault (k ∷ ks) e p other = λ none. cc
