-- Copies, which are refused only when out of memory.
use Rattle.std.proofs.Common.{◌≡◌, ◌≢◌, Result, Ok, Err, IfOk, IfErr, refl}
use Rattle.json_scalar.specs.Refusal.{UnlessMemory}
use Rattle.json_scalar.specs.declared.refusal.Refusal.{Refusal}
use Rattle.json_scalar.specs.declared.refusal.Refusal.TheVariants.{NoMemory}

pub copy_is : {A : Type 0} (r : Result A Refusal) (x : A) → UnlessMemory r (Ok x) → IfOk r (λ y. y ≡ x)
copy_is {A = A} (Ok y) x h = let due : ◌≡◌ {A = Result A Refusal} (Ok y) (Ok x) = h (λ e. cc) in cc
copy_is (Err e) x h = tt

pub copy_memory : {A : Type 0} (r : Result A Refusal) (x : A) → UnlessMemory r (Ok x) → IfErr r (λ e. e ≡ NoMemory)
copy_memory (Ok y) x h = tt
copy_memory {A = A} (Err e) x h = by e h
  where
    by : (e : Refusal) → (◌≢◌ {A = Result A Refusal} (Err e) (Err NoMemory) → ◌≡◌ {A = Result A Refusal} (Err e) (Ok x)) → e ≡ NoMemory
    by NoMemory due = refl
    by e due = let same : ◌≡◌ {A = Result A Refusal} (Err e) (Ok x) = due (λ f. cc) in cc
