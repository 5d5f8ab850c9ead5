-- What a `Lazy` ends as, where a `&mut` to its value is returned.
use Rattle.std.specs.Prelude.{Option, Some, Result}
use Rattle.std.specs.Borrow.{LendsIf, LendsIfOk, Fml, RattleType, MutBor}
use Rattle.std.specs.declared.alloc.AllocError.{AllocError}
use Rattle.small_values.specs.contracts.lazy.Lazy.{the_row}

module _ (T : RattleType) (l : MutBor (Option T.Denot)) where
  -- once the borrow r ends, the value is the last one written through r.
  -- With no value there is still none
  abbrev pub lends_made : Option (MutBor T.Denot) → Fml
  lends_made r = LendsIf (the_row T) T l r (λ w. Some w) l.now

  -- the same where the value was made
  abbrev pub lends_value : Result (MutBor T.Denot) AllocError → Fml
  lends_value r = LendsIfOk (the_row T) T l r (λ w. Some w) l.now
