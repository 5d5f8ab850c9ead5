-- What a handle owns.
use Rattle.std.specs.Prelude.{Bool, true, false, Option, Some, None}
use mir.Syntax.{Ty}
use base.Fml.{Fml, fsep, feq}
use denote.RattleType.{RattleType}
use denote.RawPtr.{Ptr}
use Rattle.std.specs.Box.Ownership.{box_owns}

-- the box at the pointer, where one is kept; the flag says whether one is
abbrev pub handle_owns : (Ty → Ptr → Fml) → (R : RattleType) → Bool → Ptr → Option R.Denot → Fml
handle_owns holds R kept p None = feq Bool kept false
handle_owns holds R kept p (Some x) = fsep (feq Bool kept true) (box_owns holds R p x)
