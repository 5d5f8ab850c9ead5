use Rattle.std.proofs.Common.{◌∙◌, nat_eq}
use Rattle.std.specs.Cmp.Lexicographic.{pointwise}
use Rattle.lamport_id.proofs.Padding.{equal-padded}
use Rattle.lamport_id.proofs.name.ReplicaNamePartialEq.eq.Goals as goal

pub returns : goal.returns
returns c =
    let here = c.padded_text.ensures in
    let there = c.padded_text-2.ensures in
    c.eq.ensures ∙ (λ i. pointwise nat_eq (here.value i) (there.value i))
    ∙ equal-padded c.args.self.now c.args.other.now here.name there.name
