use Rattle.std.proofs.Common.{◌≡◌, ◌++◌, ◌∙◌, [], length, ap, sym, true≢false, eqb-true}
use Rattle.std.proofs.lemmas.List.{nil_from_length}
use Rattle.presence_set.specs.Blocks.{pairs_in}
use Rattle.presence_set.proofs.BlockLaws.{pairs_in-nil, nil_is}
use Rattle.presence_set.proofs.blocks.Entries.is_empty.Goals as goal

pub returns-then-is_empty : goal.returns-then-is_empty
returns-then-is_empty g c =
    let first = c.self.inside.entries.now in
    let rest = c.self.inside.blocks.now in
    let none_first : first ≡ [] = nil_from_length first (eqb-true (length first) 0 (sym c.is_empty.ensures ∙ c.if-is_empty.true)) in
    rw (← c.self.view_is) (
      (λ yes. ap (λ l. l ++ pairs_in rest) none_first ∙ ap pairs_in (nil_from_length rest (eqb-true (length rest) 0 (sym c.is_empty-then-is_empty.ensures ∙ yes)))),
      (λ none. c.is_empty-then-is_empty.ensures ∙ nil_is rest (pairs_in-nil first rest c.self.invariant none).1),
    )

pub returns-else-is_empty : goal.returns-else-is_empty
returns-else-is_empty g c =
    let first = c.self.inside.entries.now in
    let rest = c.self.inside.blocks.now in
    rw (← c.self.view_is) (
      (λ yes. absurd (true≢false (sym yes ∙ c.if-is_empty.false))),
      (λ none. absurd (true≢false (sym (c.is_empty.ensures ∙ nil_is first (pairs_in-nil first rest c.self.invariant none).0) ∙ c.if-is_empty.false))),
    )
