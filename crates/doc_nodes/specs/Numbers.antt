-- Numbers of operations, of which there are few enough for their total.
use Rattle.std.specs.Prelude.{◌≡◌, ◌<◌, ◌≤◌, ℕ, ℤ, List, length, Bool, true}
use Rattle.doc_api.specs.Words.{Id}

-- there are no more numbers than counted, which are fewer than 2^64, and where there is room
-- for one more so are they with it
pub record AreCounted (numbers : List (Id × ℤ) × Bool) (most : ℕ) : Type 0 where
  pub few : length numbers.0 ≤ most
  pub within : most < 18446744073709551616
  pub room : numbers.1 ≡ true → most < 18446744073709551615
