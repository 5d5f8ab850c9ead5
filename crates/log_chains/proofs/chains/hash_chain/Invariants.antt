use Rattle.std.proofs.Common.{◌-◌, ◌≡◌, ◌++◌, ℕ, List}
use Rattle.sha2.specs.Hashers.{Holds256}
use Rattle.doc_rules.specs.Chains.{chain_between, chain_lines}
use Rattle.log_chains.proofs.chains.hash_chain.Given as goal

abbrev pub invariant-loop-reached : goal.invariant-loop-reached
invariant-loop-reached l =
    (done : List ℕ) × ((m : List ℕ) → Holds256 l.initial.hasher m → Holds256 l.hasher (m ++ done))
    × (chain_lines (chain_between l.name l.above l.last l.log.operations) ≡ done ++ chain_lines (chain_between l.name l.reached l.last l.log.operations))

abbrev pub decreases-loop-reached : goal.decreases-loop-reached
decreases-loop-reached l = l.last - l.reached
