-- The limit of texts.
use Rattle.std.specs.Prelude.{ℕ}

-- the bytes of a text
abbrev pub longest_text : ℕ
longest_text = 4096
