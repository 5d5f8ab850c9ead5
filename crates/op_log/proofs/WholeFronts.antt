-- The kept front is the front of the log.
use Rattle.std.proofs.Common.{◌≡◌, ℕ, List, sym, ◌∙◌}
use Rattle.op_core.specs.Op.{Op}
use Rattle.crdt_rules.specs.Pull.{front_of}
use Rattle.doc_rules.proofs.WholeFront.{front_last, front_rising, fronts_same}
use Rattle.op_log.specs.Front.{IsFrontOf}
use Rattle.op_log.proofs.Fronts.{get_by-entry_of}

pub front_is : (log : List Op) (front : List (List ℕ × ℕ)) → IsFrontOf log front → front ≡ front_of log
front_is log front is =
    fronts_same front (front_of log) is.rising (front_rising log) (λ name. sym (get_by-entry_of front name) ∙ is.last name ∙ sym (front_last log name))
