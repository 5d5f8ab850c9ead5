use Rattle.std.proofs.Common.{◌≡◌, ◌+◌, ◌<◌, ℕ, List, suc, [], Bool, ◌&&◌, length, drop, get_or, sym, ap, subst, ◌∙◌, arith}
use Rattle.std.specs.List.{list_all}
use Rattle.std.proofs.lemmas.List.{get_or_default}
use Rattle.version_vector.specs.Front.{id_of}
use Rattle.crdt_rules.specs.Dependencies.{is_logged}
use Rattle.op_log.proofs.Pairs.{all_from}
use Rattle.op_log.proofs.log.OpLog.logs_front.Goals as goal

pub returns-then-not-logs_pair : goal.returns-then-not-logs_pair
returns-then-not-logs_pair c =
    let front = c.args.front.now in
    let at = c.loop-at.at in
    let test : List ℕ × ℕ → Bool = λ e. is_logged c.args.self.now.operations (id_of e) in
    let within : at < length front = subst (λ (n : ℕ). at < n) c.len-at-end.ensures c.loop-at-test.true in
    let pair : List ℕ × ℕ = get_or front at ([], 0) in
    ap (λ b. b && list_all test (drop (suc at) front)) (sym c.if-not-logs_pair.true ∙ c.logs_pair.ensures)
    ∙ sym (all_from test front at pair within (get_or_default front at ([], 0) pair within))
    ∙ c.loop-at.invariant

pub loop-at-preserved : goal.loop-at-preserved
loop-at-preserved c =
    let front = c.args.front.now in
    let at = c.loop-at.at in
    let one : at + 1 ≡ suc at = omega arith in
    let test : List ℕ × ℕ → Bool = λ e. is_logged c.args.self.now.operations (id_of e) in
    let within : at < length front = subst (λ (n : ℕ). at < n) c.len-at-end.ensures c.loop-at-test.true in
    let pair : List ℕ × ℕ = get_or front at ([], 0) in
    rw one
    (ap (λ b. b && list_all test (drop (suc at) front)) (sym c.if-not-logs_pair.false ∙ c.logs_pair.ensures)
    ∙ sym (all_from test front at pair within (get_or_default front at ([], 0) pair within))
    ∙ c.loop-at.invariant)
