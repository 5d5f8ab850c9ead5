-- Whether the documents behind the first ones are stored.
use Rattle.std.proofs.Common.{◌<◌, ◌≤◌, ◌+◌, ℕ, List, map, drop, get_or, length, add-one, drop-cons}
use Rattle.std.proofs.lemmas.List.{drop_all}
use Rattle.std.specs.Borrow.{Bor}
use Rattle.locked_doc.specs.declared.gather.Totals.{Totals}
use Rattle.stored_log.specs.Docs.{Doc}
use Rattle.served_log.specs.Totals.{AreStored, IsStored}

-- those from this place on: the one there, and those behind it
pub stored_step : (docs : List Doc) (names : List (Bor (List ℕ))) (totals : List Totals) (i : ℕ) (n : Bor (List ℕ)) (t : Totals) → i < length names → i < length totals
    → IsStored docs (get_or names i n).now (get_or totals i t) × AreStored docs (map (λ s. s.now) (drop (i + 1) names)) (drop (i + 1) totals)
    → AreStored docs (map (λ s. s.now) (drop i names)) (drop i totals)
stored_step docs names totals i n t within there = rw (drop-cons names i n within, drop-cons totals i t there, add-one) (λ h. h)

-- behind the last one there is none
pub stored_end : (docs : List Doc) (names : List (Bor (List ℕ))) (totals : List Totals) (i : ℕ) → length names ≤ i → length totals ≤ i
    → AreStored docs (map (λ s. s.now) (drop i names)) (drop i totals)
stored_end docs names totals i past over = rw (drop_all i names past, drop_all i totals over) tt
