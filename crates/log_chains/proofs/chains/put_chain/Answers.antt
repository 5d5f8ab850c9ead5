use Rattle.std.proofs.Common.{◌≡◌, ℕ, List, [], ◌∷◌, ap, subst, unwrap_or, ◌∙◌}
use Rattle.serde_json.specs.Data.{number, string, unsigned}
use Rattle.json_text.specs.Tokens.{data_tokens, Puts}
use Rattle.op_core.specs.Wire.{list_data}
use Rattle.doc_rules.specs.Chains.{chain_between, chain_digest, counter_or_zero}
use Rattle.log_chains.proofs.chains.put_chain.Goals as goal

pub returns : goal.returns
returns c =
    let name = c.args.pair.now.0 in
    let last = c.args.pair.now.1 in
    let log = c.args.log.now.operations in
    let above : c.unwrap_or-above.result ≡ counter_or_zero c.args.after.now name = c.unwrap_or-above.ensures ∙ ap (λ o. unwrap_or o 0) c.counter_of.ensures in
    let digest : c.as_str.result.now ≡ chain_digest (chain_between name (counter_or_zero c.args.after.now name) last log) =
    c.as_str.ensures.value ∙ c.in_ok-digest.ensures ∙ ap (λ (n : ℕ). chain_digest (chain_between name n last log)) above in
    subst
    (λ (d : List ℕ). Puts (data_tokens (list_data (string name ∷ number (unsigned last) ∷ string d ∷ []))) c.args.text.now c.put_digest.new.text c.put_digest.result)
    digest c.put_digest.ensures
