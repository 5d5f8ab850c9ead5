use Rattle.std.proofs.Common.{◌≡◌, ◌++◌, ◌∷◌, [], ℕ, List, map, take, ap, ◌∙◌}
use Rattle.std.specs.Arc.{arc_slice_items}
use Rattle.std.specs.List.{concat}
use Rattle.version_vector.proofs.InChunks.{joined_more, joined_all, full_more, full_all}
use Rattle.version_vector.proofs.chunks.chunks_of.Goals as goal

abbrev counter : List ℕ × ℕ → ℕ
counter e = e.1

pub loop-rest-preserved : goal.loop-rest-preserved
loop-rest-preserved c =
    let old : List (List ℕ) = map arc_slice_items c.loop-rest.chunks.items in
    let new : List (List ℕ) = map arc_slice_items c.push_chunk.new.chunks.items in
    let rest = c.loop-rest.rest.now in
    let first = c.split_at.result.0.now in
    let pushed : new ≡ old ++ map counter (take 16 rest) ∷ [] =
    c.in_ok-push_chunk.ensures.ok ∙ ap (λ (l : List (List ℕ × ℕ)). old ++ map counter l ∷ []) c.split_at.ensures.front in
    record {
      joined =
          ap (λ (l : List (List ℕ × ℕ)). concat new ++ map counter l) c.split_at.ensures.back
          ∙ joined_more counter old new rest 16 (map counter c.args.pairs.now) pushed c.loop-rest.invariant.joined;
      full = full_more counter old new rest first c.in_ok-push_chunk.ensures.ok c.loop-rest.invariant.full c.split_at.ensures.front_len;
    }

pub returns-clause-ok : goal.returns-clause-ok
returns-clause-ok c =
    joined_all counter (map arc_slice_items c.loop-rest.chunks.items) (map arc_slice_items c.push_chunk-2.new.chunks.items) c.loop-rest.rest.now (map counter c.args.pairs.now)
    c.in_ok-push_chunk-2.ensures.ok c.loop-rest.invariant.joined

pub returns-clause-full : goal.returns-clause-full
returns-clause-full c =
    full_all counter (map arc_slice_items c.loop-rest.chunks.items) (map arc_slice_items c.push_chunk-2.new.chunks.items) c.loop-rest.rest.now c.in_ok-push_chunk-2.ensures.ok
    c.loop-rest.invariant.full c.loop-rest-test.false
