use Rattle.std.proofs.Common.{rules, ◌≡◌, ◌+◌, max, ℕ, map, drop, get_or, sym, ap, ◌∙◌}
use Rattle.std.specs.Arc.{arc_slice_items}
use Rattle.std.specs.List.{concat}
use Rattle.std.proofs.lemmas.List.{at_drop_more}
use Rattle.version_vector.specs.Front.{greatest}
use Rattle.version_vector.proofs.InChunks.{greatest-append, greatest_step}
use Rattle.version_vector.proofs.chunks.greatest_of_all.Goals as goal

pub loop-chunk-preserved : goal.loop-chunk-preserved
loop-chunk-preserved c =
    let chunks = c.args.chunks.now in
    let at = c.loop-chunk.chunk-index in
    let chunk = c.chunk-item.result in
    let rest : ℕ = greatest (concat (map arc_slice_items (drop (at + 1) chunks))) in
    let next : greatest (concat (map arc_slice_items (drop at chunks))) ≡ max (greatest (arc_slice_items (get_or chunks at chunk))) rest =
    at_drop_more (λ l. greatest (concat (map arc_slice_items l))) chunks at chunk c.loop-chunk-test.true
    ∙ greatest-append (arc_slice_items (get_or chunks at chunk)) (concat (map arc_slice_items (drop (at + 1) chunks))) in
    let found : c.greatest.result ≡ greatest (arc_slice_items (get_or chunks at chunk)) =
    c.greatest.ensures ∙ ap greatest (c.as_slice.ensures.value ∙ ap arc_slice_items c.chunk-item.is) in
    let larger : c.max-most.result ≡ max c.loop-chunk.most c.greatest.result = search rules in
    greatest_step c.loop-chunk.most c.greatest.result rest c.max-most.result larger
    ∙ ap (λ (n : ℕ). max c.loop-chunk.most (max n rest)) found ∙ ap (max c.loop-chunk.most) (sym next) ∙ c.loop-chunk.invariant
