-- What holds of each row of a table that may be the first holds of what the table gives.
use Rattle.std.proofs.Common.{◌≡◌, List, [], ◌∷◌, Bool, true, false, if◌then◌else◌, refl}
use Rattle.doc_rules.specs.Events.{Expected, first_row}

module _ (P : Expected → Type 0) where
  -- of a row whose test holds where none before does, and of what is due else
  abbrev pub ByRows : List (Bool × Expected) → Expected → Type 0
  ByRows [] due = P due
  ByRows (row ∷ rows) due = (row.0 ≡ true → P row.1) × (row.0 ≡ false → ByRows rows due)

  pub by_rows : (rows : List (Bool × Expected)) (due : Expected) → ByRows rows due → P (first_row rows due)
  by_rows [] due h = h
  by_rows (row ∷ rows) due h = by row.0 refl (λ e. by_rows rows due (h.1 e))
    where
      by : (b : Bool) → row.0 ≡ b → (row.0 ≡ false → P (first_row rows due)) → P (if b then row.1 else first_row rows due)
      by true e behind = h.0 e
      by false e behind = behind e
