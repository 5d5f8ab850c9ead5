-- What is there is what it is taken for.
use Rattle.std.proofs.Common.{◌≡◌, Option, Some, None, IfSome, option_map, unwrap_or, refl}

pub if_some_is : {X Y : Type 0} (f : X → Y) (none : Y) (o : Option X) → IfSome o (λ x. f x ≡ unwrap_or (option_map f o) none)
if_some_is f none (Some x) = refl
if_some_is f none None = tt
