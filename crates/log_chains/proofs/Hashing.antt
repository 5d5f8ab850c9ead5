-- What was hashed of a chain, and what is left.
use Rattle.std.proofs.Common.{◌≡◌, ℕ, List, [], ◌++◌, sym, ap, subst, ◌∙◌, append-nil, append_assoc}

module _ (held : List ℕ → Type 0) (m done : List ℕ) where
  -- nothing is left
  pub hashed_all : (all rest : List ℕ) → all ≡ done ++ rest → rest ≡ [] → held (m ++ done) → held (m ++ all)
  hashed_all all rest is none h = subst (λ bytes. held (m ++ bytes)) (sym (is ∙ ap (λ r. done ++ r) none ∙ append-nil done)) h

  -- one line more
  pub hashed_next : (line : List ℕ) → held ((m ++ done) ++ line) → held (m ++ (done ++ line))
  hashed_next line h = subst held (append_assoc m done line) h
