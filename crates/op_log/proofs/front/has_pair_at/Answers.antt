use Rattle.std.proofs.Common.{◌<◌, ℕ, nat_eq, eqb-true, sym, subst, ◌∙◌}
use Rattle.std.proofs.lemmas.Bool.{and_parts}
use lib.Pointwise.{pointwise, bytes_decides}
use Rattle.op_log.proofs.front.has_pair_at.Goals as goal

pub returns-then-at-len : goal.returns-then-at-len
returns-then-at-len c =
    λ h.
    let found = c.pair_at.result in
    let pair = c.args.pair in
    let same = and_parts (pointwise nat_eq found.0 pair.0) (nat_eq found.1 pair.1) (sym c.eq.ensures ∙ h) in (
      c.args.at,
      subst (λ (n : ℕ). c.args.at < n) c.len.ensures c.if-at-len.true,
      sym (c.pair_at.ensures pair) ∙ (λ i. ((bytes_decides found.0 pair.0).0 same.0 i, eqb-true found.1 pair.1 same.1 i)),
    )
