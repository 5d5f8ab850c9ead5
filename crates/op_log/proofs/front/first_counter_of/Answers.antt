use Rattle.std.proofs.Common.{ℕ, ◌<◌, List, sym, ap, subst, ◌∙◌, arith}
use Rattle.std.proofs.lemmas.List.{drop_all}
use Rattle.crdt_rules.specs.Dependencies.{entry_of}
use Rattle.op_log.proofs.Chained.{entry_here, entry_behind}
use Rattle.op_log.proofs.front.first_counter_of.Goals as goal

pub loop-at-preserved : goal.loop-at-preserved
loop-at-preserved c =
    let at = c.loop-at.at in
    let pair = c.pair_at-other.result in
    entry_behind c.args.front.now at pair c.args.name.now (subst (λ (n : ℕ). at < n) c.len-at-end.ensures c.loop-at-test.true) (c.pair_at-other.ensures pair) (sym c.eq.ensures ∙ c.if-eq.false)
    ∙ c.loop-at.invariant

pub returns-then-eq : goal.returns-then-eq
returns-then-eq c =
    let at = c.loop-at.at in
    let pair = c.pair_at-other.result in
    sym (entry_here c.args.front.now at pair c.args.name.now (subst (λ (n : ℕ). at < n) c.len-at-end.ensures c.loop-at-test.true) (c.pair_at-other.ensures pair) (sym c.eq.ensures ∙ c.if-eq.true))
    ∙ c.loop-at.invariant

pub returns : goal.returns
returns c =
    sym (ap (λ (l : List (List ℕ × ℕ)). entry_of l c.args.name.now) (drop_all c.loop-at.at c.args.front.now (omega (arith, c.len-at-end.ensures, c.loop-at-test.false))))
    ∙ c.loop-at.invariant
