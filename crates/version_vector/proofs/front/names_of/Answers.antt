use Rattle.std.proofs.Common.{arith, ℕ, List, refl, ◌∙◌}
use Rattle.version_vector.proofs.Steps.{map_grown, map_done}
use Rattle.version_vector.proofs.front.names_of.Goals as goal

pub loop-pair-preserved : goal.loop-pair-preserved
loop-pair-preserved c = record {
  names =
      map_grown (λ (e : List ℕ × ℕ). e.0) c.args.pairs.now c.loop-pair.pair-index c.pair-item.result c.loop-pair.names.items c.push_reserved.new.self.items c.pair-item.result.0
      c.loop-pair-test.true c.pair-item.is refl c.loop-pair.invariant.names c.push_reserved.ensures.items;
  room = omega (arith, c.push_reserved.ensures.len, c.push_reserved.ensures.capacity, c.loop-pair.invariant.room, c.loop-pair-test.true);
}

pub returns-clause-ok : goal.returns-clause-ok
returns-clause-ok c =
    c.in_ok-from_vec.ensures
    ∙ map_done (λ (e : List ℕ × ℕ). e.0) c.args.pairs.now c.loop-pair.pair-index c.loop-pair.names.items c.loop-pair-test.false c.loop-pair.invariant.names
