use Rattle.std.proofs.Common.{◌≡◌, ◌≤◌, ◌+◌, length, sym, ap, subst, ◌∙◌, arith}
use Rattle.crdt_rules.specs.Dependencies.{is_ready}
use Rattle.crdt_rules.specs.Fits.{Fits}
use Rattle.replica_core.specs.Whole.{Contents, with_logged, with_removed}
use Rattle.replica_core.proofs.Draining.{starts, logs_one, drops_one, stops, none_found, nothing_left, found_id, not_found}
use Rattle.replica_core.proofs.body.Body.drain.Goals as goal
use Rattle.replica_core.proofs.body.Body.drain.Goals.{in-Some-remove+then-release, in-Some-remove+else-release, in_default-remove}

pub loop-init : goal.loop-init
loop-init c = starts c.args.self.now

pub overflow_add-logged : goal.overflow_add-logged
overflow_add-logged c =
    let counted = c.loop.invariant.counted in
    omega (arith, counted, c.loop-test.true, c.len-end.type_inv)

pub overflow_add-dropped : goal.overflow_add-dropped
overflow_add-dropped c =
    let counted = c.loop.invariant.counted in
    omega (arith, counted, c.loop-test.true, c.len-end.type_inv)

pub returns-in_default-clause-drained : goal.returns-in_default-clause-drained
returns-in_default-clause-drained c =
    stops c.loop.invariant (none_found (λ o. is_ready o c.loop.self.log) c.loop.self.held (rw c.in_default.is at c.next_ready.ensures.least))

pub returns-in_default-clause-few : goal.returns-in_default-clause-few
returns-in_default-clause-few c =
    let counted = c.loop.invariant.counted in
    let left = c.loop.invariant.left in
    let few : length c.args.self.now.held ≤ 256 = c.held.ensures.few in
    omega (arith, counted, left, few)

pub returns-after-loop-clause-drained : goal.returns-after-loop-clause-drained
returns-after-loop-clause-drained c =
    let left : length c.loop.self.held + c.loop.counter ≡ length c.args.self.now.held = c.loop.invariant.left in
    let none : length c.loop.self.held ≤ 0 = omega (arith, left, c.loop-test.false, c.len-end.ensures.len, ap length c.held.ensures.held) in
    stops c.loop.invariant (nothing_left (λ o. is_ready o c.loop.self.log) c.loop.self.held none)

pub returns-after-loop-clause-few : goal.returns-after-loop-clause-few
returns-after-loop-clause-few c =
    let counted = c.loop.invariant.counted in
    let left = c.loop.invariant.left in
    let few : length c.args.self.now.held ≤ 256 = c.held.ensures.few in
    omega (arith, counted, left, few)

pub loop-preserved : goal.loop-preserved
loop-preserved c =
    let b = c.loop.self in
    elim c.match-remove.branch [
      | in-Some-remove+then-release w ↦
          let op = w.in-Some-remove.op in
          let value = w.in-Some-remove.ensures.value in
          let found = sym c.in-Some.ensures.operation ∙ sym value in
          let rest = w.in-Some-remove.ensures.rest ∙ ap (λ i. with_removed i b) (sym (found_id b.held c.in-Some.id op value)) in
          let out = rw w.if-release.true at w.release.ensures in
          let fits = subst (λ (x : Contents). Fits op x.log) rest out.0 in
          let fewer = subst (λ (x : Contents). length x.held + 1 ≡ length b.held) rest w.in-Some-remove.ensures.len in
          let all = w.self-is ∙ out.1 ∙ ap (with_logged op) rest in
          rw (all, w.logged-is, w.dropped-is) (logs_one c.loop.invariant op found fits fewer)
      | in-Some-remove+else-release w ↦
          let op = w.in-Some-remove.op in
          let value = w.in-Some-remove.ensures.value in
          let found = sym c.in-Some.ensures.operation ∙ sym value in
          let rest = w.in-Some-remove.ensures.rest ∙ ap (λ i. with_removed i b) (sym (found_id b.held c.in-Some.id op value)) in
          let out = rw w.if-release.false at w.release.ensures in
          let fewer = subst (λ (x : Contents). length x.held + 1 ≡ length b.held) rest w.in-Some-remove.ensures.len in
          let all = w.self-is ∙ out ∙ rest in
          rw (all, w.logged-is, w.dropped-is) (drops_one c.loop.invariant op found fewer)
      | in_default-remove w ↦
          absurd
          (not_found (λ o. is_ready o b.log) b.held c.in-Some.id c.in-Some.ensures.least (sym c.in-Some.ensures.operation ∙ sym w.in_default-remove.ensures.value))
    ]
