use Rattle.std.proofs.Common.{◌≡◌, ◌++◌, ◌∙◌, [], length, ap, refl, sym, true≢false, eqb-true}
use Rattle.std.specs.Prelude.{IsTrue}
use Rattle.std.specs.Bool.{◌==◌}
use Rattle.std.proofs.lemmas.List.{nil_from_length}
use Rattle.presence_set.specs.Blocks.{pairs_in, blocks_in}
use Rattle.presence_set.proofs.BlockLaws.{pairs_in-nil, nil_is}
use Rattle.presence_set.proofs.blocks.Presence.is_empty.Goals as goal

pub returns-then-is_empty : goal.returns-then-is_empty
returns-then-is_empty c =
    let first = c.self.inside.first.0 in
    let rest = blocks_in c.self.inside.later in
    let counted : (length c.later_blocks.result.now == 0) ≡ (length rest == 0) = ap (λ l. length l == 0) c.later_blocks.ensures in
    let ends : IsTrue c.is_empty-then-is_empty.result → rest ≡ [] = λ yes. nil_from_length rest (eqb-true (length rest) 0 (sym counted ∙ sym c.is_empty-then-is_empty.ensures ∙ yes)) in
    let back : rest ≡ [] → IsTrue c.is_empty-then-is_empty.result = λ none. c.is_empty-then-is_empty.ensures ∙ counted ∙ nil_is rest none in
    rw (← c.self.view_is) (
      (λ yes. ap (λ l. l ++ pairs_in rest) (c.if-is_empty.ensures.0 refl) ∙ ap pairs_in (ends yes)),
      (λ none. back (pairs_in-nil first rest c.self.invariant.0.filled none).1),
    )

pub returns-else-is_empty : goal.returns-else-is_empty
returns-else-is_empty c =
    let first = c.self.inside.first.0 in
    let rest = blocks_in c.self.inside.later in
    let no : IsTrue c.is_empty.result → ⊥ = λ yes. true≢false (sym yes ∙ c.if-is_empty.false) in
    rw (← c.self.view_is) (
      (λ yes. absurd (no yes)),
      (λ none. absurd (true≢false (sym (c.if-is_empty.ensures.1 (pairs_in-nil first rest c.self.invariant.0.filled none).0)))),
    )
