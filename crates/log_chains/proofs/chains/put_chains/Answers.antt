use Rattle.std.proofs.Common.{◌<◌, ◌++◌, ℕ, ap, subst, ◌∙◌}
use Rattle.doc_rules.specs.Chains.{chain_data}
use Rattle.json_text.specs.Tokens.{data_tokens}
use Rattle.json_text.proofs.Texts.{put_next}
use Rattle.log_chains.proofs.chains.put_chains.Goals as goal

pub loop-at-preserved : goal.loop-at-preserved
loop-at-preserved c =
    let at = c.loop-at.at in
    let json = chain_data c.args.after.now c.args.log.now.operations in
    c.in_ok-put_chain.ensures ∙ ap (λ ts. ts ++ data_tokens (json c.pair_at.result)) c.loop-at.invariant
    ∙ put_next json c.args.text.now c.args.front.now at c.pair_at.result (subst (λ (n : ℕ). at < n) c.len-at-end.ensures c.loop-at-test.true)
    (c.pair_at.ensures c.pair_at.result)
