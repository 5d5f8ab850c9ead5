-- The limits of a stored log.
use Rattle.std.specs.Prelude.{ℕ}

-- the operations of a batch
abbrev pub most_rows : ℕ
most_rows = 256

-- the greatest epoch
abbrev pub last_epoch : ℕ
last_epoch = 9999999
