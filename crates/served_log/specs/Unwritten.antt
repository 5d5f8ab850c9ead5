-- Which failures of a server leave what it has written as it was.
use Rattle.std.specs.Prelude.{⊤}
use Rattle.served_log.specs.declared.failure.Failure.{Failure}
use Rattle.served_log.specs.declared.failure.Failure.TheVariants.{Memory, Store, Lists}

-- Neither totals nor a refusal were written: a refusal belongs to the epochs and the name, totals
-- to the output and to copying.
abbrev pub IsUnwritten : Failure → Type 0
IsUnwritten (Memory step) = ⊤
IsUnwritten (Store step code) = ⊤
IsUnwritten Lists = ⊤
IsUnwritten _ = ⊥
