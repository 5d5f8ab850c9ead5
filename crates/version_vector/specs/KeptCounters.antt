-- The counters of a front: in place, in memory of their own, or in chunks.
use Rattle.std.specs.Prelude.{ℕ, List, [], ◌∷◌}
use Rattle.version_vector.specs.declared.counters.Kept.{Kept}
use Rattle.version_vector.specs.declared.counters.Kept.TheVariants.{One, Two, Listed, Chunked}

abbrev pub kept_counters : Kept → List ℕ
kept_counters (One counter) = counter ∷ []
kept_counters (Two counters) = counters
kept_counters (Listed counters) = counters.items
kept_counters (Chunked chunks) = chunks
