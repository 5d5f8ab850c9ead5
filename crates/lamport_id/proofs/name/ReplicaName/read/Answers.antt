use Rattle.std.proofs.Common.{sym, ap, refl, ◌∙◌}
use Rattle.lamport_id.specs.Name.{unpadded}
use Rattle.lamport_id.proofs.Padding.{unpadded-padded}
use Rattle.lamport_id.proofs.name.ReplicaName.read.Goals as goal

pub invariant_of-result : goal.invariant_of-result
invariant_of-result c =
    let name = c.args.bytes.now in
    let spelt = sym c.if-spells_name.ensures in
    rw (c.padded.ensures, unpadded-padded name spelt) (spelt, refl)

pub returns-then-spells_name : goal.returns-then-spells_name
returns-then-spells_name c =
    let name = c.args.bytes.now in
    let spelt = sym c.if-spells_name.ensures in
    (spelt, ap unpadded c.padded.ensures ∙ unpadded-padded name spelt)
