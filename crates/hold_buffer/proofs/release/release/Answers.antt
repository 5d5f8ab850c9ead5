use Rattle.std.proofs.Common.{◌∙◌, ℕ, List, drop, Contains, inl, inr, refl, sym, subst}
use Rattle.std.proofs.lemmas.List.{drop_all, drop_more}
use Rattle.std.specs.Prelude.{slice_index_or, ◌+◌}
use Rattle.list_laws.proofs.Members.{Contains-nil, Contains-cases}
use Rattle.hold_buffer.proofs.Released.{all_released, ordered_same}
use Rattle.hold_buffer.proofs.release.release.Goals as goal

pub loop-key-init : goal.loop-key-init
loop-key-init c = (refl, c.requires.noted, c.requires.ready)

pub release_one-requires-clause-ordered : goal.release_one-requires-clause-ordered
release_one-requires-clause-ordered c =
    ordered_same c.args.id.now c.args.order.now.items c.loop-key.order.items c.loop-key.invariant.0 c.requires.ordered

pub release_one-requires-clause-ready : goal.release_one-requires-clause-ready
release_one-requires-clause-ready c = c.loop-key.invariant.2

pub loop-key-preserved : goal.loop-key-preserved
loop-key-preserved c = (
  c.release_one.ensures.same ∙ c.loop-key.invariant.0,
  (λ t among waits.
      let r = c.release_one.ensures.released t among waits in
      let keys = c.args.keys.now in
      let i = c.loop-key.key-index in
      let before = subst (λ (l : List ℕ). Contains l t.key) (drop_more keys i 0 c.loop-key-test.true) (c.loop-key.invariant.1 t r.0 waits) in
      elim (Contains-cases (slice_index_or keys i 0) (drop (i + 1) keys) before) [
        | inl same ↦ absurd (r.1 (sym same))
        | inr later ↦ later
      ]),
  c.release_one.ensures.ready,
)

pub returns-clause-order : goal.returns-clause-order
returns-clause-order c =
    all_released c.args.id.now c.args.order.now.items c.loop-key.order.items c.loop-key.invariant.0
    (λ t among waits.
    Contains-nil
    (subst (λ (l : List ℕ). Contains l t.key) (drop_all c.loop-key.key-index c.args.keys.now c.loop-key-test.false) (c.loop-key.invariant.1 t among waits)))

pub returns-clause-ready : goal.returns-clause-ready
returns-clause-ready c = c.loop-key.invariant.2
