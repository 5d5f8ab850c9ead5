-- Signed numbers of 64 bits are within the limits.
use Rattle.std.proofs.Common.{◌≡◌, ℤ, true, w64, lt-ltb, ◌^◌}
use lib.IntN.{pos, negsuc}
use mir.Val.{SFits}
use Rattle.json_scalar.specs.Scalar.{is_val}
use Rattle.json_scalar.specs.declared.scalar.Scalar.TheVariants.{Int}
use Rattle.json_scalar.specs.declared.scalar.Val.TheVariants.{Scalar as Plain}

pub number_fits : (z : ℤ) → SFits w64 z → is_val (Plain (Int z)) ≡ true
number_fits (pos n) h = lt-ltb n (2 ^ 63) h.sfits
number_fits (negsuc n) h = lt-ltb n (2 ^ 63) h.sfits
