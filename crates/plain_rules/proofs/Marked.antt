-- Marks, as they are looked for.
use Rattle.std.proofs.Common.{◌≡◌, List, [], ◌∷◌, true, ◌&&◌, ◌||◌, ◌⊎◌, inl, inr, refl, ap, ◌∙◌}
use Rattle.std.specs.List.{list_any}
use Rattle.std.proofs.lemmas.Bool.{and_parts, or_cases, or_left, or_right}
use Rattle.std.proofs.Math.Bool.{or_comm}
use Rattle.lamport_id.specs.declared.id.Id.{Id}
use Rattle.op_core.specs.declared.cursor.Key.{Key}
use Rattle.crdt_rules.specs.Same.{id_eq, key_eq}
use Rattle.crdt_rules.proofs.SameLaws.{id_decides}
use Rattle.plain_rules.specs.Plain.{present_in}

module _ (k : Key) where
  pub marked-any : (marks : List (Key × Id)) (i : Id) → list_any (λ m. key_eq m.0 k && id_eq m.1 i) marks ≡ present_in marks k i
  marked-any [] i = refl
  marked-any (m ∷ marks) i = or_comm (key_eq m.0 k && id_eq m.1 i) (list_any (λ m. key_eq m.0 k && id_eq m.1 i) marks) ∙ ap (λ b. b || (key_eq m.0 k && id_eq m.1 i)) (marked-any marks i)

  -- a mark at the key is the mark of some id
  pub marked-some : (marks : List (Key × Id)) → list_any (λ m. key_eq m.0 k) marks ≡ true → (i : Id) × (present_in marks k i ≡ true)
  marked-some [] h = absurd (cc)
  marked-some (m ∷ marks) h = by (marked-some marks) (or_cases (key_eq m.0 k) (list_any (λ m. key_eq m.0 k) marks) h)
    where
      by : (list_any (λ m. key_eq m.0 k) marks ≡ true → (i : Id) × (present_in marks k i ≡ true))
          → (key_eq m.0 k ≡ true) ⊎ (list_any (λ m. key_eq m.0 k) marks ≡ true) → (i : Id) × (present_in (m ∷ marks) k i ≡ true)
      by ih (inl e) = (m.1, or_right (present_in marks k m.1) (key_eq m.0 k && id_eq m.1 m.1) (rw (e, id_decides.itself m.1) refl))
      by ih (inr f) = let rest = ih f in (rest.0, or_left (present_in marks k rest.0) (key_eq m.0 k && id_eq m.1 rest.0) rest.1)

  pub some-marked : (marks : List (Key × Id)) (i : Id) → present_in marks k i ≡ true → list_any (λ m. key_eq m.0 k) marks ≡ true
  some-marked [] i h = absurd (cc)
  some-marked (m ∷ marks) i h = by (some-marked marks i) (or_cases (present_in marks k i) (key_eq m.0 k && id_eq m.1 i) h)
    where
      by : (present_in marks k i ≡ true → list_any (λ m. key_eq m.0 k) marks ≡ true) → (present_in marks k i ≡ true) ⊎ ((key_eq m.0 k && id_eq m.1 i) ≡ true) → list_any (λ m. key_eq m.0 k) (m ∷ marks) ≡ true
      by ih (inl f) = or_right (key_eq m.0 k) (list_any (λ m. key_eq m.0 k) marks) (ih f)
      by ih (inr f) = or_left (key_eq m.0 k) (list_any (λ m. key_eq m.0 k) marks) (and_parts (key_eq m.0 k) (id_eq m.1 i) f).0
