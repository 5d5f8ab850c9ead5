-- What a call tells where it ends well.
use Rattle.std.proofs.Common.{Result, Ok, Err, OnOk}

-- what holds whatever the result is
pub on_ok : {T E P : Type 0} (r : Result T E) → P → OnOk r P
on_ok (Ok x) p = p
on_ok (Err e) p = tt
