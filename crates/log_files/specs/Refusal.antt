-- Which causes are reported as a refusal.
use Rattle.std.specs.Prelude.{⊤}
use Rattle.log_files.specs.declared.causes.Cause.{Cause}
use Rattle.log_files.specs.declared.causes.Cause.TheVariants.{NoDatabase, Damaged, NoLog}

abbrev pub IsRefusal : Cause → Type 0
IsRefusal NoDatabase = ⊤
IsRefusal Damaged = ⊤
IsRefusal (NoLog wrong) = ⊤
IsRefusal _ = ⊥
