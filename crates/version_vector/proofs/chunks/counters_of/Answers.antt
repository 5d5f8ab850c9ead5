use Rattle.std.proofs.Common.{◌≡◌, ℕ, ◌+◌, List, [], ◌∷◌, length, length-append, refl, ap, ◌∙◌, arith}
use Rattle.version_vector.proofs.Steps.{map_grown, map_done}
use Rattle.version_vector.proofs.chunks.counters_of.Goals as goal

pub loop-pair-preserved : goal.loop-pair-preserved
loop-pair-preserved c =
    let grown : length c.push_reserved.new.self.items ≡ length c.loop-pair.counters.items + 1 =
    ap length c.push_reserved.ensures.items ∙ length-append c.loop-pair.counters.items (c.pair-item.result.1 ∷ []) in
    record {
      counters =
          map_grown (λ (e : List ℕ × ℕ). e.1) c.args.pairs.now c.loop-pair.pair-index c.pair-item.result c.loop-pair.counters.items c.push_reserved.new.self.items c.pair-item.result.1
          c.loop-pair-test.true c.pair-item.is refl c.loop-pair.invariant.counters c.push_reserved.ensures.items;
      room = omega (arith, grown, c.push_reserved.ensures.capacity, c.loop-pair.invariant.room, c.loop-pair-test.true);
    }

pub returns-clause-ok : goal.returns-clause-ok
returns-clause-ok c =
    map_done (λ (e : List ℕ × ℕ). e.1) c.args.pairs.now c.loop-pair.pair-index c.loop-pair.counters.items c.loop-pair-test.false c.loop-pair.invariant.counters
