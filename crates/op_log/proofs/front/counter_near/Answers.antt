use Rattle.std.proofs.Common.{◌≡◌, ℕ, ◌<◌, List, length, Some, Contains, sym, subst, ◌∙◌}
use Rattle.std.proofs.lemmas.List.Elements.{Contains-get_or}
use lib.Pointwise.{bytes_decides}
use Rattle.crdt_rules.specs.Dependencies.{entry_of}
use Rattle.doc_rules.proofs.WholeFront.{entry_of-at, rising_from_ascending}
use Rattle.op_log.proofs.front.counter_near.Goals as goal

pub returns-then-eq : goal.returns-then-eq
returns-then-eq c =
    let front = c.args.front.now in
    let pair = c.pair_at-near.result in
    let same : pair.0 ≡ c.args.name = (bytes_decides pair.0 c.args.name).0 (sym c.eq.ensures ∙ c.if-eq.true) in
    let within : c.args.index < length front = subst (λ (n : ℕ). c.args.index < n) c.len.ensures c.if-index-len.true in
    let inside : Contains front pair = subst (Contains front) (sym (c.pair_at-near.ensures pair)) (Contains-get_or front c.args.index pair within) in
    sym (subst (λ (n : List ℕ). entry_of front n ≡ Some pair.1) same (entry_of-at front pair (rising_from_ascending front c.requires) inside))
