-- An operation's text is that of no other.
use Rattle.std.proofs.Common.{◌≡◌, true, Some, sym, ap, ◌∙◌}
use Rattle.serde_json.specs.Read.{read}
use Rattle.op_core.specs.Op.{Op}
use Rattle.op_core.specs.Shape.{is_shaped}
use Rattle.op_core.specs.Wire.{wire}
use Rattle.op_core.proofs.Operations.{wire_injective}
use Rattle.stored_log.specs.Docs.{op_text}
use Rattle.stored_log.proofs.ReadBack.{read-wire}

pub one_operation : (op other : Op) → is_shaped op ≡ true → is_shaped other ≡ true → op_text op ≡ op_text other → op ≡ other
one_operation op other shaped also same =
    let read_alike : Some (wire op) ≡ Some (wire other) = sym (read-wire op shaped) ∙ ap read same ∙ read-wire other also in
    wire_injective op other shaped also (let wires : wire op ≡ wire other = cc in wires)
