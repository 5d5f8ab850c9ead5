use Rattle.std.proofs.Common.{ℕ, ◌<◌, length, sym, ap, subst, ◌∙◌}
use Rattle.version_vector.proofs.FrontPairs.{length-pairs}
use Rattle.version_vector.proofs.front.Front.pair_at.Goals as goal

pub pair_of-requires-clause-at : goal.pair_of-requires-clause-at
pair_of-requires-clause-at c =
    subst (λ (k : ℕ). c.args.at < k) (sym (ap length c.parts.ensures.pairs) ∙ length-pairs c.parts.result.0.now c.parts.result.1.now c.parts.ensures.len) c.requires
