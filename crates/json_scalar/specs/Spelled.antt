-- The bytes of a text that is kept in place or in memory of its own.
use Rattle.std.specs.Prelude.{ℕ, List, string_bytes}
use Rattle.json_scalar.specs.declared.short_text.Spelling.{Spelling}
use Rattle.json_scalar.specs.declared.short_text.Spelling.TheVariants.{Short, Long}

module _ {N : ℕ} where
  abbrev pub spelled_bytes : Spelling N → List ℕ
  spelled_bytes (Short text) = text.bytes
  spelled_bytes (Long text) = string_bytes text
