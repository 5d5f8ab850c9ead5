use Rattle.std.proofs.Common.{◌≡◌, ◌<◌, ◌/◌, ◌%◌, ℕ, List, [], length, map, get_or, sym, ap, ◌∙◌, subst}
use Rattle.std.specs.Arc.{arc_slice_items}
use Rattle.std.proofs.lemmas.List.{length-map, get_or-map}
use Rattle.version_vector.proofs.InChunks.{is_at_quotient}
use Rattle.version_vector.proofs.chunks.counter_at.Goals as goal

pub bounds-chunks-at : goal.bounds-chunks-at
bounds-chunks-at c =
    let found = is_at_quotient (map arc_slice_items c.args.chunks.now) c.args.at c.requires.full c.requires.within in
    subst (λ (n : ℕ). c.args.at / 16 < n) (length-map c.args.chunks.now arc_slice_items) found.chunk

pub bounds-as_slice-at : goal.bounds-as_slice-at
bounds-as_slice-at c =
    let chunks = c.args.chunks.now in
    let at = c.args.at in
    let found = is_at_quotient (map arc_slice_items chunks) at c.requires.full c.requires.within in
    let inside : at / 16 < length chunks = subst (λ (n : ℕ). at / 16 < n) (length-map chunks arc_slice_items) found.chunk in
    let chunk : get_or (map arc_slice_items chunks) (at / 16) [] ≡ c.as_slice.result.now =
    get_or-map arc_slice_items chunks (at / 16) c.index-chunks-at.result [] inside ∙ ap arc_slice_items (sym c.index-chunks-at.is) ∙ sym c.as_slice.ensures.value in
    subst (λ (counters : List ℕ). at % 16 < length counters) chunk found.place

pub returns : goal.returns
returns c =
    let chunks = c.args.chunks.now in
    let at = c.args.at in
    let found = is_at_quotient (map arc_slice_items chunks) at c.requires.full c.requires.within in
    let inside : at / 16 < length chunks = subst (λ (n : ℕ). at / 16 < n) (length-map chunks arc_slice_items) found.chunk in
    let chunk : get_or (map arc_slice_items chunks) (at / 16) [] ≡ c.as_slice.result.now =
    get_or-map arc_slice_items chunks (at / 16) c.index-chunks-at.result [] inside ∙ ap arc_slice_items (sym c.index-chunks-at.is) ∙ sym c.as_slice.ensures.value in
    ap (λ (counters : List ℕ). get_or counters (at % 16) 0) (sym chunk) ∙ found.counter
