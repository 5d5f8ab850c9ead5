use Rattle.std.proofs.Common.{◌≡◌, ◌++◌, map, take}
use Rattle.doc_rules.specs.Chains.{chain_data}
use Rattle.json_text.specs.Tokens.{all_tokens}
use Rattle.log_chains.proofs.chains.put_chains.Given as goal

abbrev pub invariant-loop-at : goal.invariant-loop-at
invariant-loop-at l = l.text ≡ l.initial.text ++ all_tokens (map (chain_data l.after l.log.operations) (take l.at l.front))
