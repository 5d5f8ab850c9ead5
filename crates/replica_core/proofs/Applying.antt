-- The operations of a valid log, one after another.
use Rattle.std.proofs.Common.{◌≡◌, ◌+◌, ◌<◌, ℕ, List, [], ◌∷◌, ◌++◌, length, take, drop, get_or, sym, subst}
use Rattle.std.proofs.lemmas.List.{take-append-drop}
use Rattle.op_core.specs.Op.{Op}
use Rattle.list_laws.proofs.Reading.{take_read}
use Rattle.crdt_rules.specs.Fits.{Fits}
use Rattle.crdt_rules.specs.Log.{IsGood}
use Rattle.crdt_rules.proofs.Logs.{good_split, good_front, good_last}

good_take : (log : List Op) (n : ℕ) → IsGood log → IsGood (take n log)
good_take log n good = (good_split [] (take n log) (drop n log) (subst IsGood (sym (take-append-drop n log)) good)).0

-- the operation at a place, behind those before it
pub record StepAt (log : List Op) (place : ℕ) (op : Op) : Type 0 where
  pub next : take (place + 1) log ≡ take place log ++ op ∷ []
  pub good : IsGood (take place log)
  pub fits : Fits op (take place log)

pub step_at : (log : List Op) (place : ℕ) (op : Op) → IsGood log → place < length log → op ≡ get_or log place op → StepAt log place op
step_at log place op good within is =
    let next = take_read log place op within is in
    let longer : IsGood (take place log ++ op ∷ []) = subst IsGood next (good_take log (place + 1) good) in
    record {
      next = next;
      good = good_front (take place log) op longer;
      fits = good_last (take place log) op longer;
    }
