use Rattle.std.proofs.Common.{◌∙◌}
use Rattle.std.specs.Ordering.{nat_cmp}
use Rattle.std.specs.Cmp.Lexicographic.{slice_cmp}
use Rattle.lamport_id.proofs.Padding.{cmp-padded}
use Rattle.lamport_id.proofs.name.ReplicaNameOrd.cmp.Goals as goal

pub returns : goal.returns
returns c =
    let here = c.padded_text.ensures in
    let there = c.padded_text-2.ensures in
    c.cmp.ensures ∙ (λ i. slice_cmp nat_cmp (here.value i) (there.value i))
    ∙ cmp-padded c.args.self.now c.args.other.now here.name there.name
