use Rattle.std.proofs.Common.{◌<◌, ◌++◌, ℕ, ap, subst, ◌∙◌}
use Rattle.op_core.specs.Wire.{entry_data}
use Rattle.json_text.specs.Tokens.{data_tokens}
use Rattle.json_text.proofs.Texts.{put_next}
use Rattle.json_text.proofs.wires.put_pairs.Goals as goal

pub loop-at-preserved : goal.loop-at-preserved
loop-at-preserved c =
    let at = c.loop-at.at in
    c.in_ok-put_in.ensures ∙ ap (λ ts. ts ++ data_tokens (entry_data c.pair_at.result)) c.loop-at.invariant
    ∙ put_next entry_data c.args.text.now c.args.front.now at c.pair_at.result (subst (λ (n : ℕ). at < n) c.len-at-end.ensures c.loop-at-test.true)
    (c.pair_at.ensures c.pair_at.result)
