use Rattle.std.proofs.Common.{rules, ◌≡◌, length, sym, ap, ◌∙◌, eqb-true, eq-eqb}
use Rattle.std.specs.List.{list_all}
use Rattle.converge_laws.specs.Replayed.{holds}
use Rattle.converge_laws.proofs.Sets.{agree_from, agree_all, agree_many}
use Rattle.converge_laws.proofs.agree.have_same.Goals as goal

pub returns-then-len : goal.returns-then-len
returns-then-len c =
    let ops = c.args.log.now.operations in
    let others = c.args.other.now.operations in
    let many : length ops ≡ length others = search rules in
    let told : c.hold_all.result ≡ list_all (holds others) ops = c.hold_all.ensures ∙ ap (list_all (holds others)) c.as_slice.ensures in
    (λ yes. agree_from ops others c.len.ensures.good c.len-2.ensures.good many (sym told ∙ yes), λ agree. told ∙ agree_all ops others agree)

pub returns-else-len : goal.returns-else-len
returns-else-len c =
    let ops = c.args.log.now.operations in
    let others = c.args.other.now.operations in (
      λ yes. absurd (c.if-len.false (eqb-true c.len.result c.len-2.result yes)),
      λ agree. eq-eqb c.len.result c.len-2.result (c.len.ensures.len ∙ agree_many ops others agree ∙ sym c.len-2.ensures.len),
    )
