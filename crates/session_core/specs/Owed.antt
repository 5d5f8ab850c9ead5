-- What a session owes of its documents before its replies may go out.
use Rattle.std.specs.Prelude.{◌≡◌, ℕ}

-- Where what is owed of a document counts as noted, it was noted before, and as much is owed now.
abbrev pub StaysNoted : {A : Type 0} → (A → ℕ → ℕ) → (A → ℕ → Type 0) → A → A → Type 0
StaysNoted owes is_noted old new =
    (number : ℕ) → is_noted new number → is_noted old number × (owes new number ≡ owes old number)

-- of each document a sink that covers so much covers what is owed
abbrev pub AreCovered : (ℕ → ℕ → Type 0) → (ℕ → ℕ) → Type 0
AreCovered covers owes = (number : ℕ) → covers number (owes number)
