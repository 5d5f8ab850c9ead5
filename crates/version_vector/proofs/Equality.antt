-- `==` tells whether two fronts are the same.
use Rattle.std.proofs.Common.{◌≡◌, ℕ, List, refl, rules}
use Rattle.std.specs.Bool.{Decides}
use Rattle.std.proofs.lemmas.Slice.Eq.{slice_eq-Decides}
use Rattle.version_vector.specs.Front.{front_eq}

pub front_eq-Decides : (a b : List (List ℕ × ℕ)) → Decides (front_eq a b) (a ≡ b)
front_eq-Decides a b = slice_eq-Decides (λ x y. search rules) a b _ refl

pub ruleset fronts = (front_eq-Decides)
