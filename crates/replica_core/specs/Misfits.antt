-- Why a list of operations makes no log.
use Rattle.std.specs.Prelude.{List}
use Rattle.op_core.specs.Op.{Op}
use Rattle.doc_rules.specs.Cause.{IsFirstMisfit}
use Rattle.replica_core.specs.declared.restore.Misfit.{Misfit}
use Rattle.replica_core.specs.declared.restore.Misfit.TheVariants as misfit

-- the first that does not fit, or out of memory
abbrev pub IsMisfitOf : List Op → Misfit → Type 0
IsMisfitOf ops (misfit.At place cause) = IsFirstMisfit ops place cause
IsMisfitOf ops misfit.NoMemory = Unit {0}
