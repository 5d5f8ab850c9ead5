use Rattle.std.proofs.Common.{◌≡◌, Err, Some, None, sym, ap, ◌∙◌}
use Rattle.serde_json.specs.Read.{read}
use Rattle.serde_json.specs.View.{view}
use Rattle.op_core.specs.Wire.{wire}
use Rattle.stored_log.proofs.ReadBack.{read-wire}
use Rattle.stored_log.proofs.text.read.Goals as goal

pub returns-in-Ok-clause-accepts : goal.returns-in-Ok-clause-accepts
returns-in-Ok-clause-accepts c op shaped is other =
    let found : Some (wire op) ≡ Some (view c.in-Ok.value) = sym (read-wire op shaped) ∙ ap read is ∙ c.in-Ok.ensures.ok in
    let same : wire op ≡ view c.in-Ok.value = cc in
    c.read_value.ensures.accepts op shaped same other

pub returns-in-Err-clause-accepts : goal.returns-in-Err-clause-accepts
returns-in-Err-clause-accepts c op shaped is other =
    let none = c.in-Err.ensures.err (λ memory. other (ap Err (c.fault_of.ensures.memory memory))) in
    let found : Some (wire op) ≡ None = sym (read-wire op shaped) ∙ ap read is ∙ none in
    absurd cc
