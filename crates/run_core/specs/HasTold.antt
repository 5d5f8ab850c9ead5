-- Seats, and what was acknowledged to them.
use Rattle.std.specs.Prelude.{◌≡◌, ℕ}
use Rattle.doc_rules.specs.Document.{Document, logged_by}
use Rattle.doc_rules.specs.Seats.{Seat, IsSeatOf, operation_ids}

-- a seat of the document of this number, to which just what is logged
-- for it was acknowledged, in order
pub record HasTold (number : ℕ) (d : Document) (s : Seat) : Type 0 where
  pub seat : IsSeatOf number d s
  pub told : s.told ≡ operation_ids (logged_by s.seat d)
